-- A leave keeps the rule of the table, and what callers learn of it.
use Rattle.std.proofs.Common.{rules, ◌∙◌, None}
use Rattle.ticket_lock.proofs.Tokens.{leaves_as, left_idle, left_as}
use Rattle.ticket_lock.proofs.lock.TicketLock.serve.Goals as goal

pub exchange-before-requires : goal.exchange-before-requires
exchange-before-requires g c = record { table = search rules; held = (None, c.held.invariant.1) }

pub store-requires : goal.store-requires
store-requires g c =
    let e = c.exchange-before.ensures in (
      search rules,
      search rules,
      leaves_as g.T.Journal.head g.T.Journal.entries g.T.Journal.stamp c.held.inside.place.table_id
          c.held.inside.place.me.0 c.held.inside.number c.held.inside.residue c.held.invariant.0 c.args.held
          c.held.view_is c.args.value c.requires.kept c.exchange-before.new.place.me e.view e.put
          _ _ _ _ _ (search rules) (search rules),
    )

pub invariant_of-seat : goal.invariant_of-seat
invariant_of-seat g c =
    let e = c.exchange-before.ensures in
    left_idle g.T.Journal.head g.T.Journal.entries g.T.Journal.stamp c.held.inside.place.table_id
    c.held.inside.place.me.0 c.held.inside.number c.held.inside.residue c.held.invariant.0 c.args.held c.held.view_is
    c.args.value c.requires.kept c.exchange-before.new.place.me e.view e.put
    0 c.store.new.seat.me c.store.ensures.2

pub by-served-requires : goal.by-served-requires
by-served-requires g c =
    let e = c.exchange-before.ensures in
    record {
      left = (
        c.args.held,
        c.args.value,
        left_as g.T.Journal.head g.T.Journal.entries g.T.Journal.stamp c.held.inside.place.table_id
            c.held.inside.place.me.0 c.held.inside.number c.held.inside.residue c.held.invariant.0 c.args.held
            c.held.view_is c.args.value c.requires.kept c.exchange-before.new.place.me e.view e.put
            0 c.store.new.seat.me c.store.ensures.2
            c.store.new.seat.table_id (c.store.ensures.0 ∙ e.same),
        search rules,
      );
    }

pub returns : goal.returns
returns g c =
    let e = c.exchange-before.ensures in
    record {
      left = left_as g.T.Journal.head g.T.Journal.entries g.T.Journal.stamp c.held.inside.place.table_id
          c.held.inside.place.me.0 c.held.inside.number c.held.inside.residue c.held.invariant.0 c.args.held
          c.held.view_is c.args.value c.requires.kept c.exchange-before.new.place.me e.view e.put
          0 c.store.new.seat.me c.store.ensures.2
          c.store.new.seat.table_id (c.store.ensures.0 ∙ e.same);
      served = search rules;
    }
