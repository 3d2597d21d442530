-- A draw keeps the rule of the table.
use Rattle.std.proofs.Common.{rules}
use Rattle.ticket_lock.proofs.Draw.{draws}
use Rattle.ticket_lock.proofs.lock.TicketLock.draw.Goals as goal

pub fetch_add-residue-requires : goal.fetch_add-residue-requires
fetch_add-residue-requires g c =
    let i = c.seat.invariant in (
      search rules,
      search rules,
      draws g.T.Journal.head g.T.Journal.entries g.T.Journal.stamp _ _ _ _ _ i.0.0.0 i.0.0.1 i.0.1,
    )
