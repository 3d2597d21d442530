-- One job more has ended.
use Rattle.std.proofs.Common.{arith}
use Rattle.sched_storm.specs.Jobs.{GivesBack}
use Rattle.sched_storm.proofs.GatherLaws.{Joining-push}
use Rattle.sched_storm.proofs.gather.gather.Goals as goal

pub loop-job-preserved : goal.loop-job-preserved
loop-job-preserved g c =
    let so = c.loop-job in
    let w = c.join.result in
    let popped = c.in-Some.ensures in
    let added = c.add-gathered.ensures in
    let fewer = popped.len in
    let more = added.len in
    let same = added.room in
    let room = so.invariant.room in
    let few = so.invariant.few in
    record {
      so_far = Joining-push (GivesBack g.G.Gate.lets_pass g.G.Gate.holds_back g.R.Starts.lacks_thread)
          c.args.jobs.items so.jobs.items c.pop.new.self.items so.gathered c.add-gathered.result c.in-Some.job w
          popped.items c.join.ensures w.few so.invariant.so_far added.seats added.unrecorded added.held added.stopped;
      room = omega (arith, fewer, more, same, room);
      few = omega (arith, fewer, more, few);
    }
