-- The gate held the worker at its last question.
use Rattle.std.proofs.Common.{◌<◌}
use Rattle.sched_storm.proofs.worker.hindrance.Given as goal

abbrev pub invariant-loop-asked : goal.invariant-loop-asked
invariant-loop-asked g l = 0 < l._asked → g.G.Gate.holds_back l.gate l.worker l.index
