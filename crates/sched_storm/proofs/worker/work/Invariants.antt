-- The calls so far.
use Rattle.std.proofs.Common.{◌≤◌, ◌-◌, length}
use Rattle.sched_storm.proofs.Working.{HasMadeSoFar}
use Rattle.sched_storm.proofs.worker.work.Given as goal

abbrev pub invariant-loop-made : goal.invariant-loop-made
invariant-loop-made g l = record {
  within : l.made ≤ length l.script;
  few : l.unrecorded ≤ l.made;
  so_far : HasMadeSoFar (g.G.Gate.lets_pass l.gate) l.shared.config l.initial.seat l.script l.made l.seat l.unrecorded;
}

abbrev pub decreases-loop-made : goal.decreases-loop-made
decreases-loop-made g l = length l.script - l.made
