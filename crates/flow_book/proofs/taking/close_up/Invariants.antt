-- Those gone through that still wait stand together.
use Rattle.std.proofs.Common.{◌≡◌, ◌≤◌, ◌++◌, filter, take, drop, length}
use Rattle.flow_book.specs.Queue.{still_waits}
use Rattle.flow_book.proofs.taking.close_up.Given as goal

abbrev pub invariant-loop-index : goal.invariant-loop-index
invariant-loop-index l = record {
  behind : l.index ≤ l.first;
  within : l.first ≤ l.upto;
  long : length l.queue ≡ length l.fn.queue;
  front : take l.index l.queue ≡ take l.index l.fn.queue;
  closed : filter still_waits (take l.index l.fn.queue) ++ drop l.first l.queue
      ≡ filter still_waits (take l.upto l.fn.queue) ++ drop l.upto l.fn.queue;
}
