-- The four steps, each where it can be taken.
use Rattle.std.proofs.Common.{◌≡◌, ℕ, ◌+◌, ◌<◌, true, Some, length, set, ltb, eqb, ◌∙◌, arith}
use Rattle.std.proofs.lemmas.Bool.Decides.{nat_tests}
use Rattle.ticket_core.specs.declared.SeatState.{SeatState}
use Rattle.ticket_core.specs.declared.SeatState.TheVariants.{Idle, Waiting, Holding}
use Rattle.ticket_core.specs.declared.Step.{Step}
use Rattle.ticket_core.specs.declared.Step.TheVariants.{Draw, Look, Enter, Leave}
use Rattle.ticket_core.specs.LockWorld.{LockWorld, state_of, world_from, world_after}

module _ (w : LockWorld) (seat : ℕ) (exists : seat < length w.seats) where
  -- a step of a seat that exists is one from its state
  step_from : (state : SeatState) (step : Step) → state_of w seat ≡ state
      → world_after w seat step ≡ world_from w seat state step
  step_from state step is =
      let test : ltb seat (length w.seats) ≡ true = grind (arith, nat_tests) in
      rw (test, is)

  -- an idle seat draws the next ticket
  pub world_after-draw : state_of w seat ≡ Idle
      → world_after w seat Draw
      ≡ Some (record w { next = w.next + 1; seats = set w.seats seat (Waiting w.next) })
  world_after-draw is = step_from Idle Draw is

  -- a seat that waits with a later ticket looks, and nothing changes
  pub world_after-look : (ticket : ℕ) → state_of w seat ≡ Waiting ticket → w.served < ticket
      → world_after w seat Look ≡ Some w
  world_after-look ticket is later =
      let test : ltb w.served ticket ≡ true = grind (arith, nat_tests) in
      step_from (Waiting ticket) Look is ∙ rw test

  -- a seat that waits with the served ticket enters
  pub world_after-enter : (ticket : ℕ) → state_of w seat ≡ Waiting ticket → ticket ≡ w.served
      → world_after w seat Enter ≡ Some (record w { seats = set w.seats seat (Holding ticket) })
  world_after-enter ticket is is_served =
      let test : eqb ticket w.served ≡ true = grind (arith, nat_tests) in
      step_from (Waiting ticket) Enter is ∙ rw test

  -- the holder leaves, and the next ticket is served
  pub world_after-leave : (ticket : ℕ) → state_of w seat ≡ Holding ticket
      → world_after w seat Leave ≡ Some (record w { served = w.served + 1; seats = set w.seats seat Idle })
  world_after-leave ticket is = step_from (Holding ticket) Leave is
