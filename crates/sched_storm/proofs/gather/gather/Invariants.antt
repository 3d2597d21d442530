-- The jobs that are left, and what the others gave back.
use Rattle.std.proofs.Common.{◌≤◌, ◌+◌, vec_len, vec_capacity}
use Rattle.sched_calls.specs.declared.call.TheConstants.{MAX_SCRIPTS}
use Rattle.sched_storm.specs.Jobs.{GivesBack}
use Rattle.sched_storm.proofs.GatherLaws.{Joining}
use Rattle.sched_storm.proofs.gather.gather.Given as goal

abbrev pub invariant-loop-job : goal.invariant-loop-job
invariant-loop-job g l = record {
  so_far : Joining (GivesBack g.G.Gate.lets_pass g.G.Gate.holds_back g.R.Starts.lacks_thread) l.initial.jobs.items
      l.jobs.items l.gathered;
  room : vec_len l.jobs + vec_len l.gathered.seats ≤ vec_capacity l.gathered.seats;
  few : vec_len l.jobs + vec_len l.gathered.seats ≤ MAX_SCRIPTS;
}

abbrev pub decreases-loop-job : goal.decreases-loop-job
decreases-loop-job g l = vec_len l.jobs
