-- The width so far is narrow.
use Rattle.std.proofs.Common.{◌*◌, ◌<◌, ◌≤◌, ◌-◌}
use Rattle.sched_report.proofs.spread.width_at.Given as goal

abbrev pub invariant-loop-width : goal.invariant-loop-width
invariant-loop-width l = record { positive : 0 < l.width; narrow : 128 * l.width ≤ l.delay }

abbrev pub decreases-loop-width : goal.decreases-loop-width
decreases-loop-width l = l.delay - l.width
