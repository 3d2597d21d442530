-- The seat that looked and entered is that of the ticket.
use Rattle.std.proofs.Common.{ap, ◌∙◌, sym, subst}
use Rattle.std.proofs.lemmas.Option.{same_Some}
use Rattle.ticket_lock.specs.Standing.{Standing}
use Rattle.ticket_lock.specs.Calls.{Enters}
use Rattle.ticket_lock.proofs.Entered.{Enters-looks, Enters-lock}
use Rattle.ticket_lock.proofs.lock.TicketLock.enter.Goals as goal

pub take-requires : goal.take-requires
take-requires g c =
    let e = c.in-Ok.ensures.entered in
    record {
      own = Enters-lock g.T.Journal.head g.T.Journal.entries g.T.Journal.stamp _ _ _ e.2
          ∙ ap (λ (s : Standing g.row.T-Head.Denot g.row.T-Entry.Denot). s.lock) c.loop.invariant ∙ c.requires.own;
    }

pub returns-in-Ok : goal.returns-in-Ok
returns-in-Ok g c =
    let head = g.T.Journal.head in
    let entries = g.T.Journal.entries in
    let stamp = g.T.Journal.stamp in
    let e = c.in-Ok.ensures.entered in
    let value = same_Some e.0 c.take.result.1 (sym e.1 ∙ c.take.ensures.taken) in
    let entered = subst (λ (s : Standing g.row.T-Head.Denot g.row.T-Entry.Denot).
    Enters stamp head entries s c.in-Ok.inside.0 e.0) c.loop.invariant e.2 in
    record {
      entered = subst (λ (y : Standing g.row.T-Head.Denot g.row.T-Entry.Denot × g.row.T.Denot).
          Enters stamp head entries c.args.ticket y.0 y.1)
          (λ i. (sym c.take.ensures.same i, value i))
          (Enters-looks head entries stamp c.args.ticket c.in-Ok.inside.0 c.loop.waiting.looks e.0 entered);
    }
