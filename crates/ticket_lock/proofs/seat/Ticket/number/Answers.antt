-- The number is that of the ticket drawn.
use Rattle.std.proofs.Common.{rules}
use Rattle.ticket_lock.proofs.seat.Ticket.number.Goals as goal

pub returns : goal.returns
returns g c = record { number = search rules }
