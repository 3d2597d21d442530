-- Each round takes a seat out of those that are left.
use Rattle.call_queue.proofs.queue.CallQueue.wake.Given as goal

abbrev pub decreases-loop-wakes : goal.decreases-loop-wakes
decreases-loop-wakes g l = l.wakes.seats
