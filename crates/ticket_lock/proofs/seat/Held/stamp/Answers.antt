-- The stamp has the seat's number and its ticket.
use Rattle.std.proofs.Common.{rules}
use Rattle.ticket_lock.proofs.seat.Held.stamp.Goals as goal

pub returns : goal.returns
returns g c = record { stamp = search rules }
