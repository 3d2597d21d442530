-- A look keeps the rule of the table, and after an entry the seat has the slot.
use Rattle.std.proofs.Common.{rules}
use Rattle.ticket_lock.proofs.Look.{looks_at}
use Rattle.ticket_lock.proofs.Entered.{entered_as}
use Rattle.ticket_lock.proofs.lock.TicketLock.look.Goals as goal

pub load-granted-requires : goal.load-granted-requires
load-granted-requires g c =
    let i = c.ticket.invariant in (
      search rules,
      search rules,
      looks_at g.T.Journal.head g.T.Journal.entries g.T.Journal.stamp _ _ _ _ _ i.0.0.0 i.0.1.0 _
          c.ticket.inside.residue i.0.0.1 i.0.1.1 i.0.1.2 (search rules),
    )

pub returns-then-granted-residue-clause-entered : goal.returns-then-granted-residue-clause-entered
returns-then-granted-residue-clause-entered g c =
    entered_as g.T.Journal.head g.T.Journal.entries g.T.Journal.stamp c.ticket.inside.place.table_id
    c.ticket.inside.place.me c.load-granted.new.seat.me c.ticket.inside.number c.ticket.inside.residue
    c.ticket.invariant.0 c.args.ticket c.ticket.view_is c.load-granted.result (search rules)
    c.load-granted.ensures.2 c.load-granted.new.seat.table_id c.load-granted.ensures.0
