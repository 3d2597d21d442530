-- The press still shows the history.
use Rattle.std.proofs.Common.{refl, sym, subst}
use Rattle.sched_desk.specs.Build.{BuildsNoMap, with_press}
use Rattle.sched_desk.specs.Calls.{HasRecorded}
use Rattle.sched_desk.specs.Desk.{Recording}
use Rattle.sched_desk.proofs.Recorded.{answered, shows-same}
use Rattle.sched_desk.proofs.recorder.Recorder.record.Goals as goal

pub invariant_of-self : goal.invariant_of-self
invariant_of-self c =
    let inside = c.self.inside in
    let told = c.call.ensures in
    shows-same inside.scheduler c.args.stamp c.args.call inside.press inside.maps c.call.new.self c.call.result
    c.self.invariant
    (subst (λ (r : Recording). BuildsNoMap r.machine.config r.machine.history c.args.call) (sym c.self.view_is)
    c.requires.plain)
    told.recorded told.err told.step

pub returns : goal.returns
returns c =
    let inside = c.self.inside in
    let told = c.call.ensures in
    record {
      recorded = subst (λ (r : Recording). HasRecorded r c.args.stamp c.args.call
          (with_press c.call.new.self inside.press) c.call.result) c.self.view_is
          (record {
            answered = answered inside.scheduler c.args.stamp c.args.call c.call.new.self c.call.result told.recorded
                told.err told.step told.encodable told.full told.whole told.memory told.legal;
            press = refl;
          });
    }
