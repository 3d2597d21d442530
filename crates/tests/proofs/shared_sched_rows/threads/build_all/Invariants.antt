-- The seat stays one of the lock.
use Rattle.std.proofs.Common.{◌≡◌}
use Rattle.tests.proofs.shared_sched_rows.threads.build_all.Given as goal

abbrev pub invariant-loop-number : goal.invariant-loop-number
invariant-loop-number g l = l.seat.lock ≡ l.shared.lock
