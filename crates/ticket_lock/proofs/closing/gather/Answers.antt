-- Each join keeps the rule of the table.
use Rattle.std.proofs.Common.{rules, ◌≡◌, Some}
use Rattle.ticket_lock.specs.Rule.{about_of}
use Rattle.ticket_lock.specs.Standing.{Lock, Standing}
use Rattle.ticket_lock.proofs.Gathered.{gather_joins, Every-last}
use Rattle.ticket_lock.proofs.closing.gather.Goals as goal

pub join_seat-requires : goal.join_seat-requires
join_seat-requires g c =
    let i = c.loop-seat.invariant in
    let seat = c.in-Some-pop.seat in
    let a = about_of g.T.Journal.head g.T.Journal.entries c.args.steps.now.key in
    let lock : Lock g.row.T-Head.Denot g.row.T-Entry.Denot =
    record { table = c.args.steps.now.table_id; about = Some a } in
    let own = Every-last (λ (s : Standing g.row.T-Head.Denot g.row.T-Entry.Denot). s.lock ≡ lock) c.args.seats.items
    c.loop-seat.seats.items i.1.0 c.pop.new.self.items c.pop.result seat i.1.1 c.pop.ensures.items c.in-Some-pop.is
    c.requires.own in (
      i.0,
      search rules,
      c.seat.invariant.1,
      search rules,
      gather_joins c.seat.inside.place.table_id c.seat.inside.place.me.0 c.seat.inside.number c.seat.invariant.0 seat
          c.seat.view_is lock own i.1.0 c.loop-seat.place.me.0 i.1.2 g.T.Journal.head g.T.Journal.entries
          g.T.Journal.stamp a _ _,
    )
