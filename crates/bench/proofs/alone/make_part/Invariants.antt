-- The seat stays one of the lock.
use Rattle.std.proofs.Common.{◌≡◌}
use Rattle.bench.proofs.alone.make_part.Given as goal

abbrev pub invariant-loop-number : goal.invariant-loop-number
invariant-loop-number g l = l.seat.lock ≡ l.shared.lock
