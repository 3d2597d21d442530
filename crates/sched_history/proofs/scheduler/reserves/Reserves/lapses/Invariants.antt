-- Those before this place that lapse.
use Rattle.std.proofs.Common.{◌≡◌, ◌≤◌, take}
use Rattle.sched_history.specs.Reserves.{lapses_of}
use Rattle.sched_history.proofs.scheduler.reserves.Reserves.lapses.Given as goal

abbrev pub invariant-loop-place : goal.invariant-loop-place
invariant-loop-place l = record {
  counted : l.lapses ≡ lapses_of l.met (take l.place l.self-inside.items);
  few : l.lapses ≤ l.place;
}
