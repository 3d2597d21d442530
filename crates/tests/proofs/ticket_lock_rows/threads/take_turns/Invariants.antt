-- The seat stays one of the lock.
use Rattle.std.proofs.Common.{◌≡◌}
use Rattle.tests.proofs.ticket_lock_rows.threads.take_turns.Given as goal

abbrev pub invariant-loop : goal.invariant-loop
invariant-loop g l = l.seat.lock ≡ l.lock
