-- Those gone through are counted.
use Rattle.std.proofs.Common.{◌≡◌, ◌≤◌, length, filter, take}
use Rattle.flow_book.specs.Queue.{still_waits}
use Rattle.flow_book.proofs.shown.count_up_to.Given as goal

abbrev pub invariant-loop-waiting : goal.invariant-loop-waiting
invariant-loop-waiting l = record {
  count : l.count ≡ length (filter still_waits (take l.waiting-index l.part));
  within : l.count ≤ l.waiting-index;
}
