-- None gone through waits.
use Rattle.std.proofs.Common.{◌-◌, length}
use Rattle.flow_book.specs.Queue.{NoneWaitsBefore}
use Rattle.flow_book.proofs.parts.first_waiting.Given as goal

abbrev pub invariant-loop-at : goal.invariant-loop-at
invariant-loop-at l = NoneWaitsBefore l.at l.queue

abbrev pub decreases-loop-at : goal.decreases-loop-at
decreases-loop-at l = length l.queue - l.at
