-- The slot is with the seat, and has the value.
use Rattle.std.proofs.Common.{rules, Some}
use Rattle.ticket_lock.proofs.lock.TicketLock.take.Goals as goal

pub exchange-found-requires : goal.exchange-found-requires
exchange-found-requires g c =
    let i = c.inside.invariant.1 in record { table = search rules; held = (Some i.0, i.1) }
