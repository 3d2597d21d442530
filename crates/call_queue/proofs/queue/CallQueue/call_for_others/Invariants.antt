-- What was taken up last is a ticket of this lock, and its tray is to be answered.
use Rattle.std.proofs.Common.{◌≡◌}
use Rattle.call_queue.specs.Tokens.{IsTaken}
use Rattle.call_queue.proofs.queue.CallQueue.call_for_others.Given as goal

abbrev pub invariant-loop : goal.invariant-loop
invariant-loop g l = (l.taken.ticket.lock ≡ l.self)
    × IsTaken l.taken.serving l.taken.tray.now (l.taken.ticket, l.taken.call)
