-- From what callers see of a token to what the table asks and tells.
use Rattle.std.proofs.Common.{◌≡◌, ℕ, ◌+◌, ◌%◌, ◌^◌, List, [], ◌∷◌, ◌++◌, map, Option, Some, refl, sym, ap, ◌∙◌, subst}
use Rattle.std.proofs.Common.{⊎_elim, inl, inr}
use Rattle.std.proofs.Math.Nat.{mod-add-mod}
use Rattle.std.proofs.lemmas.List.{append-nil, append_assoc, map-append}
use Rattle.atomic_table.specs.Table.{Me, step, Allows}
use Rattle.atomic_table.specs.Seated.{TableId}
use mathlib.Core.Option.{none}
use Rattle.minislots.specs.declared.stamp.Stamp.{Stamp}
use Rattle.ticket_core.specs.declared.SeatState.TheVariants.{Holding}
use Rattle.ticket_lock.specs.declared.board.About.{About}
use Rattle.ticket_lock.specs.declared.board.Logged.{Logged}
use Rattle.ticket_lock.specs.declared.board.Part.{Part}
use Rattle.ticket_lock.specs.declared.board.View.{View}
use Rattle.ticket_lock.specs.Rule.{entry_of, IsOrdered, Ruled}
use Rattle.ticket_lock.specs.Standing.{Standing, opening_in, seats_in, first_in, seen, stamp_of, ticket_in, number_in}
use Rattle.ticket_lock.specs.Standing.{log_in, turns_in, standing_of}
use Rattle.ticket_lock.specs.Plays.{part_left, left_view, IsAdded, MayPut, Left}
use Rattle.ticket_lock.specs.Calls.{MayLeave, Leaves}
use Rattle.ticket_lock.specs.Tokens.{IsIdle, IsHolding}
use Rattle.ticket_lock.specs.Row.{place_of}
use Rattle.ticket_lock.proofs.Leave.{leaves}

module _ {T H E : Type 0} (head : T → H) (entries : T → List E) (stamp : E → Stamp) (table : TableId) (v : View H E)
    (p : Part E) (only : v.parts ≡ p ∷ []) (t : ℕ) (holding : v.state ≡ Holding t) (x : T) where
  -- a value that the holder may give back, as the table asks
  pub MayLeave-put : MayLeave stamp head entries (standing_of table v) x → MayPut stamp head entries v.about p t x
  MayLeave-put may = (
    sym may.head_is,
    ⊎_elim
        (λ (same : entries x ≡ seen (standing_of table v)). (
          [],
          same ∙ ap (λ (ps : List (Part E)). opening_in v.about ++ map entry_of (log_in ps)) only
              ∙ ap (λ (l : List (Logged E)). opening_in v.about ++ map entry_of l) (sym (append-nil p.log)),
          inl refl,
        ))
        (λ (one : (e : E) × (entries x ≡ seen (standing_of table v) ++ e ∷ [])
        × (stamp e ≡ stamp_of (standing_of table v))).
        let new : Logged E = record { entry = one.0; ticket = t } in (
          new ∷ [],
          one.1 ∙ ap (λ (ps : List (Part E)). (opening_in v.about ++ map entry_of (log_in ps)) ++ one.0 ∷ []) only
              ∙ append_assoc (opening_in v.about) (map entry_of p.log) (one.0 ∷ [])
              ∙ ap (λ (l : List E). opening_in v.about ++ l) (sym (map-append entry_of p.log (new ∷ []))),
          inr (
            one.0,
            refl,
            one.2 ∙ (λ i. record { seat = number_in (only i); ticket = ticket_in (holding i) % 2 ^ 64 }),
          ),
        ))
        may.entries_are,
  )

  -- what the table tells of a leave, as callers see it
  pub Left-told : (found : ℕ) (now : Me (Option T) (View H E))
      → Left stamp head entries (step 0 0 0 0 none) (v, (0, Some x) ∷ []) found now
      → Leaves stamp head entries (standing_of table v) x (standing_of table now.0)
  Left-told found now told =
      let left = told p t x only holding refl in
      let more = left.2 in
      let about = left.1 in
      let view : now.0 ≡ left_view v p more = ap (λ (m : Me (Option T) (View H E)). m.0) left.3 in
      let log : p.log ≡ log_in v.parts = sym (ap log_in only) in
      record {
        more = more;
        left = ap (standing_of table) view ∙ (λ i. record {
          lock = record { table = table; about = v.about };
          number = number_in (sym only i);
          log = log i ++ more;
          ticket = 0;
          looks = v.looks;
          turns = turns_in (sym only i) + 1;
        });
        added = subst (λ (y : ℕ × ℕ). IsAdded stamp y.0 y.1 more)
            (λ i. (number_in (sym only i), ticket_in (sym holding i))) left.5;
        entries_are = left.4 ∙ ap (λ (o : Option (About H E)). opening_in o ++ map entry_of (p.log ++ more)) (sym about)
            ∙ ap (λ (u : View H E). opening_in u.about ++ map entry_of (log_in u.parts)) (sym view);
        ordered = rw view (subst
            (λ (y : Option (About H E) × ℕ). IsOrdered stamp (first_in y.0) (seats_in y.0) (p.log ++ more) (y.1 + 1))
            (λ i. (sym about i, ticket_in (sym holding i))) left.6);
      }

module _ {T H E : Type 0} (head : T → H) (entries : T → List E) (stamp : E → Stamp) (table : TableId) (v : View H E)
    (number residue : ℕ) (holds : IsHolding number residue v)
    (held : Standing H E) (held_is : standing_of table v ≡ held) (x : T) (may : MayLeave stamp head entries held x)
    (now : Me (Option T) (View H E)) (view : now.0 ≡ v) (put : now.1 ≡ (0, Some x) ∷ []) where
  -- the holder may leave with the value in the slot
  pub leaves_as : (a : About H E) (slots id word new : ℕ) → word ≡ place_of new → new ≡ (residue + 1) % 2 ^ 64
      → Allows (Ruled head entries stamp a) slots id now word (λ n. new)
      (λ n. Left stamp head entries (step 0 0 0 0 none) now new)
  leaves_as a slots id word new at is = subst
      (λ (m : Me (Option T) (View H E)). Allows (Ruled head entries stamp a) slots id m word (λ n. new)
      (λ n. Left stamp head entries (step 0 0 0 0 none) m new))
      (λ i. (sym view i, now.1))
      (leaves head entries stamp a slots id v holds.0.0 holds.1.0 x holds.0.1 holds.1.1
      (MayLeave-put head entries stamp table v holds.0.0 holds.0.1 holds.1.0 holds.1.1 x
      (subst (λ (h : Standing H E). MayLeave stamp head entries h x) (sym held_is) may))
      now.1 put word new at
      (is ∙ ap (λ (n : ℕ). (n + 1) % 2 ^ 64) holds.1.2 ∙ mod-add-mod holds.1.0 (2 ^ 64) 1))

  module _ (found : ℕ) (after : Me (Option T) (View H E))
      (told : Left stamp head entries (step 0 0 0 0 none) now found after) where
    -- the leave, of the view before the value was put back
    left_told : Left stamp head entries (step 0 0 0 0 none) (v, (0, Some x) ∷ []) found after
    left_told = subst (λ (m : Me (Option T) (View H E)). Left stamp head entries (step 0 0 0 0 none) m found after)
        (λ i. (view i, put i)) told

    -- afterwards the seat is idle, with its number
    pub left_idle : IsIdle number after.0 × (after.1 ≡ [])
    left_idle =
        let left = left_told holds.0.0 holds.1.0 x holds.0.1 holds.1.1 refl in
        let is : after.0 ≡ left_view v holds.0.0 left.2 = ap (λ (m : Me (Option T) (View H E)). m.0) left.3 in (
          (
            (part_left holds.0.0 left.2, ap (λ (u : View H E). u.parts) is, holds.0.2),
            ap (λ (u : View H E). u.state) is,
          ),
          ap (λ (m : Me (Option T) (View H E)). m.1) left.3,
        )

    -- what callers learn
    pub left_as : (after_table : TableId) → after_table ≡ table
        → Leaves stamp head entries held x (standing_of after_table after.0)
    left_as after_table same =
        subst (λ (y : Standing H E × TableId). Leaves stamp head entries y.0 x (standing_of y.1 after.0))
        (λ i. (held_is i, sym same i))
        (Left-told head entries stamp table v holds.0.0 holds.0.1 holds.1.0 holds.1.1 x found after left_told)
