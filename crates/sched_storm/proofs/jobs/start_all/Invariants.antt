-- The seats and scripts that are left, and the jobs of the others.
use Rattle.std.proofs.Common.{◌≡◌, ◌≤◌, ◌+◌, vec_len, vec_capacity}
use Rattle.sched_storm.specs.Jobs.{IsJob}
use Rattle.sched_storm.proofs.JobLaws.{Starting}
use Rattle.sched_storm.proofs.jobs.start_all.Given as goal

abbrev pub invariant-loop-seat : goal.invariant-loop-seat
invariant-loop-seat g l = record {
  so_far : Starting (IsJob g.G.Gate.lets_pass g.G.Gate.holds_back g.R.Starts.lacks_thread l.checked l.gate)
      l.shared.lock l.initial.seats.items l.initial.scripts.items l.seats.items l.scripts.items l.jobs.items;
  each : vec_len l.seats ≡ vec_len l.scripts;
  room : vec_len l.seats + vec_len l.jobs ≤ vec_capacity l.jobs;
  count : vec_len l.seats + vec_len l.jobs ≡ vec_len l.initial.seats;
}

abbrev pub decreases-loop-seat : goal.decreases-loop-seat
decreases-loop-seat g l = vec_len l.seats
