-- All from the place that is reached on still wait.
use Rattle.std.proofs.Common.{◌≡◌, ◌≤◌, filter, drop, length}
use Rattle.flow_book.specs.Queue.{still_waits}
use Rattle.flow_book.proofs.taking.behind_last_idle.Given as goal

abbrev pub invariant-loop-at : goal.invariant-loop-at
invariant-loop-at l = record {
  within : l.at ≤ length l.queue;
  waiting : filter still_waits (drop l.at l.queue) ≡ drop l.at l.queue;
}

abbrev pub decreases-loop-at : goal.decreases-loop-at
decreases-loop-at l = l.at
