-- The lock gives the desk back, and its scheduler has the closed history.
use Rattle.std.proofs.Common.{◌≡◌, true, Some, sym, ap, ◌∙◌, subst}
use Rattle.std.proofs.lemmas.Option.{same_Some}
use Rattle.sched_history.specs.Machine.{Machine}
use Rattle.ticket_lock.specs.Standing.{Lock}
use Rattle.sched_desk.specs.declared.event.Event.{Event}
use Rattle.sched_desk.specs.Closed.{ClosesTo}
use Rattle.sched_desk.specs.Desk.{FixedDesk, SharedDesk, HasPress, no_press}
use Rattle.sched_desk.proofs.AtClose.{keeps_nothing_handed}
use Rattle.worker_sched.proofs.workplace.Workplace.close.Goals as goal

pub returns : goal.returns
returns c =
    let me = c.args.self in
    let m = c.close-scheduler.result.0.value in
    let counts = c.close-scheduler.result.1 in
    let same = c.into_inner.ensures in
    let told = subst (λ (l : Lock FixedDesk Event).
    ClosesTo c.self.inside.config l c.args.seats.items m.history m.handed counts)
    c.into_lock.ensures c.close-scheduler.ensures.closed in
    let closed = subst (λ (y : SharedDesk × Machine).
    ClosesTo y.0.config y.0.lock c.args.seats.items y.1.history y.1.handed counts)
    (λ i. (c.self.view_is i, sym same i)) told in
    let has = subst (λ (d : SharedDesk). HasPress d.config no_press d.keeps d.lock) c.self.view_is c.self.invariant.1 in
    record {
      config = ap (λ (x : Machine). x.config) same ∙ c.close-scheduler.ensures.config
          ∙ ap (λ (d : SharedDesk). d.config) c.self.view_is;
      closed = closed;
      whole = λ keeps. keeps_nothing_handed me.config me.lock c.args.seats.items no_press me.keeps has
          c.into_inner.result.history c.into_inner.result.handed counts closed keeps;
    }
