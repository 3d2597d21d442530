-- The opened table is under the rule.
use Rattle.std.proofs.Common.{◌≡◌, ℕ, zero, suc, ◌+◌, ◌≤◌, List, [], ◌∷◌, Option, Some, refl, sym, ap}
use Rattle.std.proofs.Common.{◌∙◌, subst}
use Rattle.std.proofs.Common.{arith}
use Rattle.std.proofs.lemmas.List.{append-nil, length-replicate}
use mathlib.Core.Option.{some, some-injective, some-ne-none}
use lib.ListN.{get_elem?}
use Rattle.atomic_table.specs.Table.{opening}
use Rattle.minislots.specs.declared.stamp.Stamp.{Stamp}
use Rattle.ticket_core.specs.declared.SeatState.TheVariants.{Idle, Holding}
use Rattle.ticket_core.specs.LockWorld.{opened_world}
use Rattle.ticket_core.proofs.Lawful.{IsLawful-opened_world, state_of-opened_world}
use Rattle.ticket_lock.specs.declared.board.About.{About}
use Rattle.ticket_lock.specs.declared.board.View.{View}
use Rattle.ticket_lock.specs.Rule.{head_in, about_of, Every, owns_of, once_below, new_parts, first_view, PartStands}
use Rattle.ticket_lock.specs.Rule.{ViewStands, Ruled}
use Rattle.ticket_lock.specs.declared.board.Key.{Key}
use Rattle.ticket_lock.specs.Row.{WordsStand}
use Rattle.ticket_lock.proofs.Parts.{new_parts-owned, ended_by-new_parts, length-new_parts}

module _ {T H E : Type 0} (head : T → H) (entries : T → List E) (stamp : E → Stamp) (a : About H E) where
  -- each new part stands in a lock just opened
  new_parts_stand : (i n : ℕ) → i + n ≤ a.seats
      → Every (λ q. (Some a ≡ Some a) × PartStands head entries stamp a (opened_world a.seats a.first) [] Idle q)
      (new_parts i n)
  new_parts_stand i zero h = tt
  new_parts_stand i (suc n) h = (
    (
      refl,
      record {
        exists = omega (arith, length-replicate a.seats Idle);
        state_is = state_of-opened_world a.seats a.first i;
        seen = ([], refl, tt);
        holds = λ t e. refl;
      },
    ),
    new_parts_stand (i + 1) n (omega arith),
  )

  -- the opened table stands for the opened world
  pub opens : (x : T) (words : List ℕ) → WordsStand (opened_world a.seats a.first) words → a.seats ≤ 64
      → head_in (Some a) ≡ Some (head x) → entries x ≡ a.opening
      → Ruled head entries stamp a (opening words (Some x ∷ []) (first_view a))
  opens x words row few head_is opening_is = (
    opened_world a.seats a.first,
    [],
    record {
      lawful = IsLawful-opened_world a.seats a.first;
      sized = length-replicate a.seats Idle;
      few = few;
      words = row;
      drawn = omega arith;
      left = omega (arith, ended_by-new_parts E 0 a.seats);
      owned = λ k. let count : 0 + a.seats ≡ a.seats = omega arith in
          let all : owns_of {E = E} k (new_parts 0 a.seats) ≡ once_below k a.seats =
          new_parts-owned E k 0 a.seats (omega arith)
          ∙ ap (once_below k) count in
          omega (arith, all);
      counted = let all = length-new_parts E 0 a.seats in omega arith;
      ordered = (omega arith, tt);
      views = one_view;
      home = λ free. (x, refl, (head_is, opening_is ∙ sym (append-nil a.opening)));
      out = λ k t h. let e : Idle ≡ Holding t = sym (state_of-opened_world a.seats a.first k) ∙ h in absurd (cc);
    },
  )
    where
      one_view : (i : ℕ) (v : View H E) → get_elem? (first_view a ∷ []) i ≡ some v
          → ViewStands head entries stamp a (opened_world a.seats a.first) [] v
      one_view zero v e = subst (ViewStands head entries stamp a (opened_world a.seats a.first) [])
          (some-injective (first_view a) v e)
          (new_parts_stand 0 a.seats (omega arith))
      one_view (suc i) v e = absurd (some-ne-none v (sym e))

-- the table of a lock with this key and this value stands for the opened world
pub opens_with : {T H E : Type 0} (head : T → H) (entries : T → List E) (stamp : E → Stamp) (key : Key T) (x : T)
    (words : List ℕ) (slots : List (Option T))
    → key.value.value ≡ x → WordsStand (opened_world key.seats key.first) words → key.seats ≤ 64
    → slots ≡ Some x ∷ []
    → Ruled head entries stamp (about_of head entries key)
    (opening words slots (first_view (about_of head entries key)))
opens_with head entries stamp key x words slots is row few there =
    let a = about_of head entries key in
    subst (λ (xs : List (Option _)). Ruled head entries stamp a
    (opening words xs (first_view a))) (sym there)
    (opens head entries stamp a x words row few (ap (λ y. Some (head y)) is) (ap entries (sym is)))
