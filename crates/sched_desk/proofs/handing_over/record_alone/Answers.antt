-- What the scheduler tells of a call.
use Rattle.sched_desk.proofs.Recorded.{answered}
use Rattle.sched_desk.proofs.handing_over.record_alone.Goals as goal

pub returns : goal.returns
returns c =
    let told = c.call.ensures in
    record {
      answered = answered c.args.scheduler.now c.args.stamp c.args.call c.call.new.self c.call.result told.recorded
          told.err
          told.step told.encodable told.full told.whole told.memory told.legal;
    }
