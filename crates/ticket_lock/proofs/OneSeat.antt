-- The table after a step of one seat: what each step owes, and what the others keep.
use Rattle.std.proofs.Common.{◌≡◌, ◌≢◌, ℕ, ◌+◌, ◌≤◌, List, [], ◌∷◌, length, set, Option, Some, ap, ◌∙◌, subst}
use Rattle.std.proofs.Common.{arith}
use Rattle.std.specs.List.{sum_by}
use Rattle.std.proofs.lemmas.Bool.Decides.{nat_tests}
use mathlib.Core.Option.{some, none}
use mathlib.Core.Option as maybe
use lib.ListN.{get_elem?}
use Rattle.atomic_table.specs.Table.{State}
use Rattle.minislots.specs.declared.stamp.Stamp.{Stamp}
use Rattle.ticket_core.specs.LockWorld.{LockWorld, state_of, Holds, IsLawful}
use Rattle.ticket_lock.specs.declared.board.About.{About}
use Rattle.ticket_lock.specs.declared.board.Logged.{Logged}
use Rattle.ticket_lock.specs.declared.board.Part.{Part}
use Rattle.ticket_lock.specs.declared.board.View.{View}
use Rattle.ticket_lock.specs.Rule.{Every, owns_of, owns, width, draws_of, leaves_of, once_below, Extends, IsOrdered}
use Rattle.ticket_lock.specs.Row.{WordsStand}
use Rattle.ticket_lock.specs.Rule.{IsJournal, PartStands, ViewStands, Stands}
use Rattle.ticket_lock.proofs.Sums.{sum_by-replaced}
use Rattle.ticket_lock.proofs.Views.{views_stay}

-- a number stands once or not at all below a bound
pub once_below-most : (k n : ℕ) → once_below k n ≤ 1
once_below-most k n = grind (arith, nat_tests)

module _ {T H E : Type 0} (head : T → H) (entries : T → List E) (stamp : E → Stamp) (a : About H E)
    (w : LockWorld) (log : List (Logged E)) (s : State (Option T) (View H E)) (r : Stands head entries stamp a w log s)
    (id : ℕ) (v : View H E) (at : get_elem? s.views id ≡ some v) (p : Part E) (only : v.parts ≡ p ∷ []) where
  -- the view of a seat with one number is about this lock, and its part stands
  pub own_part : (v.about ≡ Some a) × PartStands head entries stamp a w log v.state p
  own_part = (subst
      (λ (ps : List (Part E)). Every (λ q. (v.about ≡ Some a) × PartStands head entries stamp a w log v.state q) ps)
      only (r.views id v at)).0

  -- the seat's number is that view's once
  pub own_once : owns p.number v ≡ 1
  own_once = ap (owns_of p.number) only ∙ grind (arith, nat_tests)

  -- the table stands for the world after a step of this seat
  pub stands_after : (after : LockWorld) (grown : List (Logged E)) (words : List ℕ)
      (homes : List (maybe.Option (Option T))) (now : View H E)
      → IsLawful after → length after.seats ≡ length w.seats
      → WordsStand after words
      → after.next + v.draws ≡ w.next + now.draws → after.served + leaves_of v ≡ w.served + leaves_of now
      → ((k : ℕ) → owns k now ≡ owns k v) → width now ≡ width v
      → IsOrdered stamp a.first a.seats grown after.served
      → ((j : ℕ) → j ≢ p.number → state_of after j ≡ state_of w j)
      → ((j : ℕ) (seen : List (Logged E)) → j ≢ p.number → Extends stamp j seen log → Extends stamp j seen grown)
      → ((j t : ℕ) → j ≢ p.number → Holds w j t → grown ≡ log)
      → ViewStands head entries stamp a after grown now
      → (((k t : ℕ) → Holds after k t → ⊥) → (x : T) × (homes ≡ some (Some x) ∷ []) × IsJournal head entries a grown x)
      → ((k t : ℕ) → Holds after k t → homes ≡ none ∷ [])
      → Stands head entries stamp a after grown record { words = words; homes = homes; views = set s.views id now }
  stands_after after grown words homes now lawful sized words_are draws leaves same_owns same_width ordered states
      seen_more held mine home out = record {
        lawful = lawful;
        sized = sized ∙ r.sized;
        few = r.few;
        words = words_are;
        drawn = omega (arith, r.drawn, draws, sum_by-replaced draws_of s.views id v now at);
        left = omega (arith, r.left, leaves, sum_by-replaced leaves_of s.views id v now at);
        owned = λ k. let same : owns k now ≡ owns k v = same_owns k in
            let moved : sum_by (owns k) (set s.views id now) ≡ sum_by (owns k) s.views =
            omega (arith, sum_by-replaced (owns k) s.views id v now at) in
            moved ∙ r.owned k;
        counted = omega (arith, r.counted, same_width, sum_by-replaced width s.views id v now at);
        ordered = ordered;
        views = views_stay head entries stamp a w after log grown p.number sized states seen_more held s.views id v now
            at own_once (omega (arith, r.owned p.number, once_below-most p.number a.seats)) r.views mine;
        home = home;
        out = out;
      }
