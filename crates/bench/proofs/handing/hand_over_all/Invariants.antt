-- The seat stays one of the lock.
use Rattle.std.proofs.Common.{◌≡◌}
use Rattle.bench.proofs.handing.hand_over_all.Given as goal

abbrev pub invariant-loop-part : goal.invariant-loop-part
invariant-loop-part g l = l.seat.lock ≡ l.shared.lock
