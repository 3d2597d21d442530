-- The lock gives the desk back, and its history is the closed one.
use Rattle.std.proofs.Common.{◌≡◌, List, drop, sym, ap, ◌∙◌, subst}
use Rattle.std.proofs.lemmas.Option.{same_Some}
use Rattle.sched_history.specs.Machine.{Machine, kept_of}
use Rattle.sched_desk.specs.Closed.{ClosesTo}
use Rattle.sched_desk.specs.Desk.{FixedDesk, Recording, SharedDesk, HasPress, published}
use Rattle.sched_desk.proofs.AtClose.{keeps_nothing_handed}
use Rattle.shared_sched.proofs.shared.Shared.close.Goals as goal

pub returns : goal.returns
returns c =
    let me = c.args.self in
    let told = c.into_parts-scheduler.ensures in
    let m = c.into_parts-scheduler.result.0 in
    let counts = c.close-recorder.result.1 in
    let parts = told.parts ∙ c.into_inner.ensures in
    let machine = ap (λ (r : Recording). r.machine) parts in
    let closed = subst (λ (y : SharedDesk × Machine).
    ClosesTo y.0.config y.0.lock c.args.seats.items y.1.history y.1.handed counts)
    (λ i. (c.self.view_is i, sym machine i))
    (subst (λ l. ClosesTo c.self.inside.config l c.args.seats.items c.close-recorder.result.0.value.machine.history
    c.close-recorder.result.0.value.machine.handed counts) c.into_lock.ensures c.close-recorder.ensures.closed) in
    let has = subst (λ (d : SharedDesk). HasPress d.config d.press d.keeps d.lock) c.self.view_is c.self.invariant.1 in
    let head = c.close-recorder.ensures.head in
    let fixed = same_Some
    (record { config = c.self.inside.config; press = c.close-recorder.result.0.value.press; keeps = head.0 })
    (record { config = c.self.inside.config; press = c.self.inside.told.press; keeps = c.self.inside.keeps })
    (sym (subst (HasPress c.self.inside.config c.close-recorder.result.0.value.press head.0) c.into_lock.ensures head.1)
    ∙ c.self.invariant.1) in
    let first = c.handed_over-first.ensures in
    record {
      closed = (
        m.history,
        c.into_history-history.ensures.value ∙ ap (λ n. drop n m.history) (sym first),
        subst (λ n. ClosesTo me.config me.lock c.args.seats.items m.history n counts) (sym first) closed,
        told.published ∙ ap (λ (r : Recording). published r.machine.history) (sym told.parts),
      );
      whole = λ keeps. first ∙ keeps_nothing_handed me.config me.lock c.args.seats.items me.press me.keeps has m.history
          m.handed counts closed keeps;
      press = ap (λ (r : Recording). r.press) parts
          ∙ ap (λ (f : FixedDesk). f.press) fixed ∙ ap (λ (d : SharedDesk). d.press) c.self.view_is;
      none_waits = told.none_waits;
    }
