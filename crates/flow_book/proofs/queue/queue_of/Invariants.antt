-- The queue of the flows gone through.
use Rattle.std.proofs.Common.{◌<◌}
use Rattle.flow_book.specs.Queue.{IsQueueAmong}
use Rattle.flow_book.proofs.queue.queue_of.Given as goal

abbrev pub invariant-loop-place : goal.invariant-loop-place
invariant-loop-place l = IsQueueAmong l.flows (λ place. place < l.place) l.queue
