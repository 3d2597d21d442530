-- Until it enters, the ticket has only looked.
use Rattle.std.proofs.Common.{◌≡◌}
use Rattle.ticket_lock.proofs.lock.TicketLock.enter.Given as goal

abbrev pub invariant-loop : goal.invariant-loop
invariant-loop g l = l.waiting ≡ record l.initial.waiting { looks = l.waiting.looks }
