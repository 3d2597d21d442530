-- What the views of other seats keep where one seat takes a step.
use Rattle.std.proofs.Common.{◌≡◌, ◌≢◌, ℕ, ◌<◌, ◌≤◌, List, [], ◌∷◌, length, set, Option, Some, sym, ◌∙◌, subst, ⊎_elim}
use Rattle.std.proofs.Common.{arith}
use Rattle.std.specs.List.{sum_by}
use Rattle.std.proofs.lemmas.Bool.{cases_eq}
use Rattle.std.proofs.lemmas.Bool.Decides.{nat_tests}
use mathlib.Core.Option.{some}
use lib.ListN.{get_elem?}
use Rattle.atomic_table.proofs.Lists.{at_set}
use Rattle.minislots.specs.declared.stamp.Stamp.{Stamp}
use Rattle.ticket_core.specs.declared.SeatState.{SeatState}
use Rattle.ticket_core.specs.LockWorld.{LockWorld, state_of, Holds}
use Rattle.ticket_lock.specs.declared.board.About.{About}
use Rattle.ticket_lock.specs.declared.board.Logged.{Logged}
use Rattle.ticket_lock.specs.declared.board.Part.{Part}
use Rattle.ticket_lock.specs.declared.board.View.{View}
use Rattle.ticket_lock.specs.Rule.{Every, owns_of, owns, Extends, PartStands, ViewStands}
use Rattle.ticket_lock.proofs.Sums.{sum_by-pair}

-- a part that has another number is none of those with this one
owns_of-cons : {E : Type 0} (k : ℕ) (p : Part E) (ps : List (Part E)) → owns_of k (p ∷ ps) ≡ 0
    → (p.number ≢ k) × (owns_of k ps ≡ 0)
owns_of-cons k p ps none = ⊎_elim
    (λ (e : p.number ≡ k). absurd (grind (arith, nat_tests)))
    (λ (n : p.number ≢ k). (n, grind (arith, nat_tests)))
    (cases_eq p.number k)

module _ {T H E : Type 0} (head : T → H) (entries : T → List E) (stamp : E → Stamp) (a : About H E)
    (w after : LockWorld) (log grown : List (Logged E)) (k : ℕ)
    (sized : length after.seats ≡ length w.seats)
    (states : (j : ℕ) → j ≢ k → state_of after j ≡ state_of w j)
    (seen_more : (j : ℕ) (seen : List (Logged E)) → j ≢ k → Extends stamp j seen log → Extends stamp j seen grown)
    (held : (j t : ℕ) → j ≢ k → Holds w j t → grown ≡ log) where
  -- another seat's part stands after the step
  part_stays : (state : SeatState) (q : Part E) → q.number ≢ k → PartStands head entries stamp a w log state q
      → PartStands head entries stamp a after grown state q
  part_stays state q n stands = record {
    exists = subst (λ (m : ℕ). q.number < m) (sym sized) stands.exists;
    state_is = states q.number n ∙ stands.state_is;
    seen = seen_more q.number q.log n stands.seen;
    holds = λ t e. stands.holds t e ∙ sym (held q.number t n (stands.state_is ∙ e));
  }

  -- another seat's view does
  parts_stay : (about : Option (About H E)) (state : SeatState) (qs : List (Part E)) → owns_of k qs ≡ 0
      → Every (λ q. (about ≡ Some a) × PartStands head entries stamp a w log state q) qs
      → Every (λ q. (about ≡ Some a) × PartStands head entries stamp a after grown state q) qs
  parts_stay about state [] none every = tt
  parts_stay about state (q ∷ qs) none every =
      let split = owns_of-cons k q qs none in
      ((every.0.0, part_stays state q split.0 every.0.1), parts_stay about state qs split.1 every.1)

  -- all views stand, where that of the stepping seat does
  pub views_stay : (views : List (View H E)) (id : ℕ) (v now : View H E) → get_elem? views id ≡ some v → owns k v ≡ 1
      → sum_by (owns k) views ≤ 1
      → ((i : ℕ) (u : View H E) → get_elem? views i ≡ some u → ViewStands head entries stamp a w log u)
      → ViewStands head entries stamp a after grown now
      → (i : ℕ) (u : View H E) → get_elem? (set views id now) i ≡ some u → ViewStands head entries stamp a after grown u
  views_stay views id v now at one most stand mine i u e = ⊎_elim
      (λ (t : (i ≡ id) × (now ≡ u)). subst (ViewStands head entries stamp a after grown) t.1 mine)
      (λ (t : (i ≢ id) × (get_elem? views i ≡ some u)).
      let pair = sum_by-pair (owns k) views id i v u at t.1 t.0 in
      let none : owns k u ≡ 0 = omega arith in
      parts_stay u.about u.state u.parts none (stand i u t.1))
      (at_set views id i now u e)
