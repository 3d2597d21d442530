-- A build that was planned is recorded with the scheduler and the press as they were.
use Rattle.std.proofs.Common.{◌≡◌, ℕ, Ok, refl, ap, ◌∙◌, subst, arith}
use Rattle.map_snapshot.specs.Maps.{Printing}
use Rattle.sched_calls.specs.declared.call.Call.TheVariants.{Build}
use Rattle.sched_history.proofs.rows.Limits.{most_history}
use Rattle.sched_history.proofs.state.Recording.{room-whole}
use Rattle.sched_desk.specs.Build.{with_press}
use Rattle.sched_desk.specs.Calls.{HasRecorded}
use Rattle.sched_desk.specs.Desk.{Recording}
use Rattle.sched_desk.proofs.Published.{published-few}
use Rattle.sched_desk.proofs.recorder.Recorder.build.Goals as goal

pub overflow_add-self : goal.overflow_add-self
overflow_add-self g c =
    let room = room-whole c.self.inside.scheduler c.in-Ok.ensures.fits.room in
    let count = c.self.invariant.count in
    let most = published-few c.self.inside.scheduler.history in
    omega (arith, room, count, most, most_history)

pub returns-in-Ok : goal.returns-in-Ok
returns-in-Ok g c =
    let told = c.in-Ok.ensures in
    let press : c.publish.new.self.press ≡ c.self.inside.press.press =
    ap (λ (p : Printing). p.press) c.publish.ensures.published
    ∙ ap (λ (p : Printing). p.press) told.appended.appended in
    let before : with_press c.prepare.new.scheduler c.publish.new.self ≡ c.args.self.now =
    (λ i. record { machine = told.same i; press = press i }) ∙ c.self.view_is in
    record {
      recorded = subst (λ (y : Recording × ℕ). HasRecorded y.0 c.args.stamp (Build y.1)
          (with_press c.commit-reply.new.scheduler c.publish.new.self) (Ok c.commit-reply.result))
          (λ i. (before i, told.clock i)) (record { answered = c.commit-reply.ensures.answered; press = refl });
    }
