-- The places gone through are moved down.
use Rattle.std.proofs.Common.{◌≡◌, ◌++◌, map, take, drop}
use Rattle.flow_book.specs.Queue.{moved_down}
use Rattle.flow_book.proofs.queue.move_down.Given as goal

abbrev pub invariant-loop-waiting : goal.invariant-loop-waiting
invariant-loop-waiting l =
    l.queue ≡ map (moved_down l.place) (take l.waiting-index l.fn.queue) ++ drop l.waiting-index l.fn.queue
