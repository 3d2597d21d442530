-- The number is that of the seat's standing.
use Rattle.std.proofs.Common.{rules}
use Rattle.ticket_lock.proofs.seat.Seat.number.Goals as goal

pub returns : goal.returns
returns g c = record { number = search rules }
