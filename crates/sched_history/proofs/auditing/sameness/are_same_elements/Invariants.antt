-- The elements gone through are the same.
use Rattle.std.proofs.Common.{◌≡◌, take, length}
use Rattle.sched_history.proofs.auditing.sameness.are_same_elements.Given as goal

abbrev pub invariant-loop-index : goal.invariant-loop-index
invariant-loop-index l = record {
  long : length l.elements ≡ length l.others;
  same : take l.index l.elements ≡ take l.index l.others;
}
