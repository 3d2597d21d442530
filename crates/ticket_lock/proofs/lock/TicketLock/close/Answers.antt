-- The value is in its slot, and has what all seats have seen.
use Rattle.std.proofs.Common.{sym, ◌∙◌, subst, rules}
use Rattle.std.proofs.lemmas.Option.{same_Some}
use Rattle.ticket_lock.specs.Calls.{Closes}
use Rattle.ticket_lock.proofs.Gathered.{closed_as}
use Rattle.ticket_lock.proofs.lock.TicketLock.close.Goals as goal

pub unreachable-requires : goal.unreachable-requires
unreachable-requires g c =
    let told = closed_as g.T.Journal.head g.T.Journal.entries g.T.Journal.stamp c.self.inside.table.shared.key
    c.self.inside.table.shared.table_id c.args.self c.self.view_is
    c.args.seats.items c.gather-place.result.id c.gather-place.result.me.0 _ _ c.close_with-closed.ensures.values.2
    c.gather-place.ensures.gathered c.requires.all
    c.take-found.result c.take-found.ensures.value in
    c.in_default.not-Some told.0 told.1

pub returns : goal.returns
returns g c =
    let told = closed_as g.T.Journal.head g.T.Journal.entries g.T.Journal.stamp c.self.inside.table.shared.key
    c.self.inside.table.shared.table_id c.args.self c.self.view_is
    c.args.seats.items c.gather-place.result.id c.gather-place.result.me.0 _ _ c.close_with-closed.ensures.values.2
    c.gather-place.ensures.gathered c.requires.all
    c.take-found.result c.take-found.ensures.value in
    record {
      closed = subst (Closes g.T.Journal.stamp g.T.Journal.head g.T.Journal.entries c.args.self c.args.seats.items)
          (same_Some told.0 c.in-Some.value (sym told.1 ∙ c.in-Some.is)) told.2;
    }

pub take-found-requires : goal.take-found-requires
take-found-requires g c = search rules
