-- What the scheduler tells of the call, the desk tells, and an entry is noted.
use Rattle.std.proofs.Common.{◌≡◌, [], ◌∷◌, ◌++◌, Ok, Err, refl, sym, ap, ◌∙◌, subst}
use Rattle.sched_history.specs.Machine.{Machine}
use Rattle.sched_desk.specs.declared.event.Event.TheVariants.{Recorded}
use Rattle.sched_desk.specs.Calls.{HasAnswered, HasCalled}
use Rattle.sched_desk.specs.Desk.{DeskState, Docketed, Recording, Agrees, alone, desk_of}
use Rattle.sched_desk.proofs.Agreed.{agrees-recorded, called-ok, called-err}
use Rattle.sched_desk.proofs.handing_over.Desk+Scheduler.call_alone.Goals as goal

pub invariant_of-self : goal.invariant_of-self
invariant_of-self c =
    let r = alone c.self.inside.recorder.value in
    let x = alone c.record_alone.new.scheduler in
    let told = subst (λ (m : Machine). HasAnswered m c.args.stamp c.args.call c.record_alone.new.scheduler
    (Ok c.in-Ok.reply))
    c.deref_mut.ensures.value c.in-Ok.ensures.answered in
    let noted = c.record.ensures
    ∙ ap (λ (k : Docketed). record k {
      events = k.events
          ++ Recorded (record { stamp = c.args.stamp; call = c.args.call; reply = c.in-Ok.reply }) ∷ [];
    }) c.deref_mut-in-Ok.ensures.value in
    subst (Agrees x) (sym noted)
    (agrees-recorded r c.self.inside.docket.value c.self.invariant c.args.stamp c.args.call x c.in-Ok.reply
    told.recorded)

pub returns-in-Ok : goal.returns-in-Ok
returns-in-Ok c =
    let r = alone c.self.inside.recorder.value in
    let x = alone c.record_alone.new.scheduler in
    let told = subst (λ (m : Machine). HasAnswered m c.args.stamp c.args.call c.record_alone.new.scheduler
    (Ok c.in-Ok.reply))
    c.deref_mut.ensures.value c.in-Ok.ensures.answered in
    let noted = c.record.ensures
    ∙ ap (λ (k : Docketed). record k {
      events = k.events
          ++ Recorded (record { stamp = c.args.stamp; call = c.args.call; reply = c.in-Ok.reply }) ∷ [];
    }) c.deref_mut-in-Ok.ensures.value in
    record {
      called = subst (λ (y : DeskState × Docketed).
          HasCalled y.0 c.args.stamp c.args.call (desk_of x y.1) (Ok c.in-Ok.reply))
          (λ i. (c.self.view_is i, sym noted i))
          (called-ok r c.self.inside.docket.value c.self.invariant c.args.stamp c.args.call x refl c.in-Ok.reply told);
    }

pub returns-in-Err : goal.returns-in-Err
returns-in-Err c =
    let r = alone c.self.inside.recorder.value in
    let x = alone c.record_alone.new.scheduler in
    let told = subst (λ (m : Machine).
    HasAnswered m c.args.stamp c.args.call c.record_alone.new.scheduler (Err c.in-Err.unrecorded))
    c.deref_mut.ensures.value c.in-Err.ensures.answered in
    record {
      called = subst (λ (d : DeskState).
          HasCalled d c.args.stamp c.args.call (desk_of x c.self.inside.docket.value) (Err c.in-Err.unrecorded))
          c.self.view_is
          (called-err r c.self.inside.docket.value c.self.invariant c.args.stamp c.args.call x refl
          c.in-Err.unrecorded told);
    }
