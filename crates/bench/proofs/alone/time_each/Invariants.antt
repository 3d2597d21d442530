-- The seat stays one of the lock.
use Rattle.std.proofs.Common.{◌≡◌}
use Rattle.bench.proofs.alone.time_each.Given as goal

abbrev pub invariant-loop : goal.invariant-loop
invariant-loop g l = l.seat.lock ≡ l.shared.lock
