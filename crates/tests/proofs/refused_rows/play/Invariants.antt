-- The seat stays one of the scheduler's lock.
use Rattle.std.proofs.Common.{◌≡◌}
use Rattle.tests.proofs.refused_rows.play.Given as goal

abbrev pub invariant-loop-place : goal.invariant-loop-place
invariant-loop-place g l = l.seat.lock ≡ l.shared.lock
