-- A lock just opened is lawful, and each step of a seat keeps it so.
use Rattle.std.proofs.Common.{◌≡◌, ◌≢◌, ℕ, zero, suc, ◌+◌, ◌<◌, ◌≤◌, Bool, true, false}
use Rattle.std.proofs.Common.{cond, Option, Some, None, length, get_or, set, replicate}
use Rattle.std.proofs.Common.{ltb, eqb, refl, sym, ◌∙◌, ap, subst, ⊎_elim, arith}
use Rattle.std.proofs.lemmas.Bool.{cases_eq}
use Rattle.std.proofs.lemmas.Bool.Decides.{nat_tests, Decides-eqb}
use Rattle.std.proofs.lemmas.List.Folds.{sum_by-replicate}
use Rattle.std.proofs.lemmas.Option.{same_Some, none-some, cond_some}
use Rattle.ticket_core.specs.declared.SeatState.{SeatState}
use Rattle.ticket_core.specs.declared.SeatState.TheVariants.{Idle, Waiting, Holding}
use Rattle.ticket_core.specs.declared.Step.{Step}
use Rattle.ticket_core.specs.declared.Step.TheVariants.{Draw, Look, Enter, Leave}
use Rattle.ticket_core.specs.LockWorld.{LockWorld, opened_world, state_of, world_from, world_after}
use Rattle.ticket_core.specs.LockWorld.{ticket_of, has_ticket, HasTicket, Holds, IsLawful}
use Rattle.ticket_core.proofs.Seats.{one_if, Has, Has-at, Has-one, get_or-set_cases}
use Rattle.ticket_core.proofs.Seats.{Has-set, Has-set_same, Has-set_other, count_by-set}

-- a holder's ticket is in flight
pub HasTicket-holder : (w : LockWorld) (seat ticket : ℕ) → Holds w seat ticket → HasTicket w seat ticket
HasTicket-holder w seat ticket holds = ap ticket_of holds

-- where each seat is idle, one that does not exist is too
get_or-replicate_idle : (n i : ℕ) → get_or (replicate n Idle) i Idle ≡ Idle
get_or-replicate_idle zero i = refl
get_or-replicate_idle (suc n) zero = refl
get_or-replicate_idle (suc n) (suc i) = get_or-replicate_idle n i

-- in a lock just opened each seat is idle
pub state_of-opened_world : (seats first seat : ℕ) → state_of (opened_world seats first) seat ≡ Idle
state_of-opened_world seats first seat = get_or-replicate_idle seats seat

-- a lock just opened is lawful
pub IsLawful-opened_world : (seats first : ℕ) → IsLawful (opened_world seats first)
IsLawful-opened_world seats first =
    let w = opened_world seats first in
    let none : (seat ticket : ℕ) → HasTicket w seat ticket → ⊥ = λ seat ticket has.
    none-some ticket (sym (ap ticket_of (state_of-opened_world seats first seat)) ∙ has) in
    record {
      counted = omega (arith, sum_by-replicate (λ x. one_if (has_ticket x)) seats Idle);
      from_served = λ seat ticket has. absurd (none seat ticket has);
      below_next = λ seat ticket has. absurd (none seat ticket has);
      served_holds = λ seat ticket holds. absurd (none seat ticket (HasTicket-holder w seat ticket holds));
      apart = λ a b ticket has_a has_b. absurd (none a ticket has_a);
      complete = λ ticket from below. absurd (omega arith);
    }

module _ (w : LockWorld) (seat : ℕ) (lawful : IsLawful w) (exists : seat < length w.seats) where
  -- a draw keeps the world lawful
  pub IsLawful-draw : state_of w seat ≡ Idle
      → IsLawful (record w { next = w.next + 1; seats = set w.seats seat (Waiting w.next) })
  IsLawful-draw idle =
      let new : SeatState = Waiting w.next in
      let told = Has-set w.seats seat new exists in
      -- the ticket drawn is no other seat's
      let fresh : (other ticket : ℕ) → w.next ≡ ticket → Has w.seats other ticket → ⊥ = λ other ticket e has.
      let below : ticket < w.next = lawful.below_next other ticket has in omega arith in
      record {
        counted = omega (arith, count_by-set w.seats seat new exists Idle idle, lawful.counted);
        from_served = λ other ticket has. ⊎_elim
            (λ h. let e : w.next ≡ ticket = same_Some w.next ticket h.1 in omega (arith, lawful.counted))
            (λ h. lawful.from_served other ticket h.1)
            (told other ticket has);
        below_next = λ other ticket has. ⊎_elim
            (λ h. let e : w.next ≡ ticket = same_Some w.next ticket h.1 in omega arith)
            (λ h. let below : ticket < w.next = lawful.below_next other ticket h.1 in omega arith)
            (told other ticket has);
        served_holds = λ other ticket holds. ⊎_elim
            (λ h. let waits : Waiting w.next ≡ Holding ticket = sym h.1 ∙ holds in absurd (cc))
            (λ h. lawful.served_holds other ticket (sym h.1 ∙ holds))
            (get_or-set_cases w.seats seat new exists other);
        apart = λ a b ticket has_a has_b. ⊎_elim
            (λ h. ⊎_elim
            (λ k. h.0 ∙ sym k.0)
            (λ k. absurd (fresh b ticket (same_Some w.next ticket h.1) k.1))
            (told b ticket has_b))
            (λ h. ⊎_elim
            (λ k. absurd (fresh a ticket (same_Some w.next ticket k.1) h.1))
            (λ k. lawful.apart a b ticket h.1 k.1)
            (told b ticket has_b))
            (told a ticket has_a);
        complete = λ ticket from below. ⊎_elim
            (λ e. (seat, Has-set_same w.seats seat new exists ticket (ap Some (sym e))))
            (λ n. let found = lawful.complete ticket from (omega arith) in
            let other : found.0 ≢ seat = λ e.
            none-some ticket (sym (ap ticket_of idle) ∙ Has-at w.seats seat found.0 ticket (sym e) found.1) in
            (found.0, Has-set_other w.seats seat new exists found.0 ticket other found.1))
            (cases_eq ticket w.next);
      }

  -- an entry keeps the world lawful
  pub IsLawful-enter : (own : ℕ) → state_of w seat ≡ Waiting own → own ≡ w.served
      → IsLawful (record w { seats = set w.seats seat (Holding own) })
  IsLawful-enter own waits is_served =
      let new : SeatState = Holding own in
      let had : Has w.seats seat own = ap ticket_of waits in
      let before : (other ticket : ℕ) → Has (set w.seats seat new) other ticket → Has w.seats other ticket =
      λ other ticket has. ⊎_elim
      (λ h. Has-at w.seats other seat ticket h.0 (had ∙ h.1))
      (λ h. h.1)
      (Has-set w.seats seat new exists other ticket has) in
      let after : (other ticket : ℕ) → Has w.seats other ticket → Has (set w.seats seat new) other ticket =
      λ other ticket has. ⊎_elim
      (λ e. Has-at (set w.seats seat new) other seat ticket e (Has-set_same w.seats seat new exists ticket
      (ap Some (Has-one w.seats seat own ticket had (Has-at w.seats seat other ticket (sym e) has)))))
      (λ n. Has-set_other w.seats seat new exists other ticket n has)
      (cases_eq other seat) in
      record {
        counted = omega (arith, count_by-set w.seats seat new exists (Waiting own) waits, lawful.counted);
        from_served = λ other ticket has. lawful.from_served other ticket (before other ticket has);
        below_next = λ other ticket has. lawful.below_next other ticket (before other ticket has);
        served_holds = λ other ticket holds. ⊎_elim
            (λ h. let same : Holding own ≡ Holding ticket = sym h.1 ∙ holds in
            let e : own ≡ ticket = cc in sym e ∙ is_served)
            (λ h. lawful.served_holds other ticket (sym h.1 ∙ holds))
            (get_or-set_cases w.seats seat new exists other);
        apart = λ a b ticket has_a has_b.
            lawful.apart a b ticket (before a ticket has_a) (before b ticket has_b);
        complete = λ ticket from below.
            let found = lawful.complete ticket from below in (found.0, after found.0 ticket found.1);
      }

  -- a leave keeps the world lawful
  pub IsLawful-leave : (own : ℕ) → state_of w seat ≡ Holding own
      → IsLawful (record w { served = w.served + 1; seats = set w.seats seat Idle })
  IsLawful-leave own holds =
      let is_served : own ≡ w.served = lawful.served_holds seat own holds in
      let had : Has w.seats seat w.served = HasTicket-holder w seat own holds ∙ ap Some is_served in
      let before : (other ticket : ℕ) → Has (set w.seats seat Idle) other ticket
      → (other ≢ seat) × Has w.seats other ticket =
      λ other ticket has. ⊎_elim
      (λ h. absurd (none-some ticket h.1))
      (λ h. h)
      (Has-set w.seats seat Idle exists other ticket has) in
      -- no other seat has the ticket that was served
      let later : (other ticket : ℕ) → other ≢ seat → Has w.seats other ticket → ticket ≢ w.served =
      λ other ticket n has e. n (lawful.apart other seat w.served (has ∙ ap Some e) had) in
      record {
        counted = omega (arith, count_by-set w.seats seat Idle exists (Holding own) holds, lawful.counted);
        from_served = λ other ticket has.
            let b = before other ticket has in
            let n : ticket ≢ w.served = later other ticket b.0 b.1 in
            let from : w.served ≤ ticket = lawful.from_served other ticket b.1 in
            omega arith;
        below_next = λ other ticket has. lawful.below_next other ticket (before other ticket has).1;
        served_holds = λ other ticket held. ⊎_elim
            (λ h. let idle : Idle ≡ Holding ticket = sym h.1 ∙ held in absurd (cc))
            (λ h. let held_before : Holds w other ticket = sym h.1 ∙ held in
            let has = HasTicket-holder w other ticket held_before in
            absurd (later other ticket h.0 has (lawful.served_holds other ticket held_before)))
            (get_or-set_cases w.seats seat Idle exists other);
        apart = λ a b ticket has_a has_b.
            lawful.apart a b ticket (before a ticket has_a).1 (before b ticket has_b).1;
        complete = λ ticket from below.
            let found = lawful.complete ticket (omega arith) below in
            let other : found.0 ≢ seat = λ e.
            let has = Has-at w.seats seat found.0 ticket (sym e) found.1 in
            let same : w.served ≡ ticket = Has-one w.seats seat w.served ticket had has in
            omega arith in
            (found.0, Has-set_other w.seats seat Idle exists found.0 ticket other found.1);
      }

  -- a step from the seat's state keeps the world lawful
  pub IsLawful-world_from : (state : SeatState) (step : Step) (after : LockWorld) → state_of w seat ≡ state
      → world_from w seat state step ≡ Some after → IsLawful after
  IsLawful-world_from Idle Draw after is taken = subst IsLawful (same_Some _ after taken) (IsLawful-draw is)
  IsLawful-world_from Idle Look after is taken = absurd (none-some after taken)
  IsLawful-world_from Idle Enter after is taken = absurd (none-some after taken)
  IsLawful-world_from Idle Leave after is taken = absurd (none-some after taken)
  IsLawful-world_from (Waiting own) Draw after is taken = absurd (none-some after taken)
  IsLawful-world_from (Waiting own) Look after is taken =
      subst IsLawful (cond_some (ltb w.served own) w after taken).1 lawful
  IsLawful-world_from (Waiting own) Enter after is taken =
      let inside : LockWorld = record w { seats = set w.seats seat (Holding own) } in
      let t = cond_some (eqb own w.served) inside after taken in
      subst IsLawful t.1 (IsLawful-enter own is ((Decides-eqb own w.served).0 t.0))
  IsLawful-world_from (Waiting own) Leave after is taken = absurd (none-some after taken)
  IsLawful-world_from (Holding own) Draw after is taken = absurd (none-some after taken)
  IsLawful-world_from (Holding own) Look after is taken = absurd (none-some after taken)
  IsLawful-world_from (Holding own) Enter after is taken = absurd (none-some after taken)
  IsLawful-world_from (Holding own) Leave after is taken =
      subst IsLawful (same_Some _ after taken) (IsLawful-leave own is)

-- a choice that gives something gives it by its test
cond_taken : {A : Type 0} (b : Bool) (o : Option A) (x : A) → cond b o None ≡ Some x
    → (b ≡ true) × (o ≡ Some x)
cond_taken true o x e = (refl, e)
cond_taken false o x e = absurd (none-some x e)

-- a step that is taken is of a seat that exists, from its state
pub world_after-taken : (w after : LockWorld) (seat : ℕ) (step : Step) → world_after w seat step ≡ Some after
    → (seat < length w.seats) × (world_from w seat (state_of w seat) step ≡ Some after)
world_after-taken w after seat step taken =
    let t = cond_taken (ltb seat (length w.seats)) (world_from w seat (state_of w seat) step) after taken in
    let exists : seat < length w.seats = grind (arith, nat_tests, t.0) in
    (exists, t.1)

-- each step that is taken keeps the world lawful
pub IsLawful-world_after : (w after : LockWorld) (seat : ℕ) (step : Step) → IsLawful w
    → world_after w seat step ≡ Some after → IsLawful after
IsLawful-world_after w after seat step lawful taken =
    let t = world_after-taken w after seat step taken in
    IsLawful-world_from w seat lawful t.0 (state_of w seat) step after refl t.1
