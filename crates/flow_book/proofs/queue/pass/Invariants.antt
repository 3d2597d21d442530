-- It has come to a place behind those that it passes.
use Rattle.std.proofs.Common.{◌-◌, ◌<◌, length}
use Rattle.flow_book.specs.Queue.{HasPassed}
use Rattle.flow_book.proofs.queue.pass.Given as goal

abbrev pub invariant-loop-to : goal.invariant-loop-to
invariant-loop-to l = record {
  within : l.to < length l.queue;
  passed : HasPassed l.index l.fn.queue l.queue l.turn l.to;
}

abbrev pub decreases-loop-to : goal.decreases-loop-to
decreases-loop-to l = length l.initial.queue - l.to
