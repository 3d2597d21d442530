-- Each worker was started, and gave back what it made.
use Rattle.sched_storm.specs.Jobs.{calls_each}
use Rattle.sched_storm.proofs.GatherLaws.{gathered}
use Rattle.sched_storm.proofs.jobs.fn.run_workers.scope.Goals as goal

pub returns : goal.returns
returns g c =
    gathered _ g.G.Gate.lets_pass g.G.Gate.holds_back g.R.Starts.lacks_thread c.captures.checked c.captures.gate.now
    c.captures.seats.items (calls_each c.captures.scripts.items) c.start_all-jobs.result.items c.gather.result
    c.start_all-jobs.ensures.started c.gather.ensures.gathers
