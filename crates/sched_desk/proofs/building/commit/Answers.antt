-- The press shows the MAP of the entry that is recorded.
use Rattle.std.proofs.Common.{Ok, Err, ◌≤◌, arith}
use Rattle.sched_calls.specs.declared.call.Call.TheVariants.{Build}
use Rattle.sched_history.proofs.state.Whole.{room-whole-history}
use Rattle.sched_desk.proofs.Recorded.{committed, shows-built}
use Rattle.sched_desk.proofs.building.commit.Goals as goal

pub returns : goal.returns
returns c =
    let planned = c.args.planned in
    let told = c.commit.ensures in
    record {
      answered = committed c.args.scheduler.now c.args.stamp (Build planned.clock) c.commit.new.self c.commit.result
          c.requires.fits.room told.recorded told.step told.encodable told.legal;
      shows = shows-built c.args.scheduler.now c.args.stamp (Build planned.clock) c.args.press.now c.args.maps
          planned.map
          c.commit.new.self c.commit.result c.requires.shown told.built told.recorded;
    }
