-- The Reserves before this place are done.
use Rattle.std.proofs.Common.{◌≡◌, length}
use Rattle.sched_calls.specs.declared.call.TheConstants.{MAX_RESERVES}
use Rattle.sched_history.proofs.reserves.Rooms.{IsAged}
use Rattle.sched_history.proofs.scheduler.reserves.Reserves.age.Given as goal

abbrev pub invariant-loop-place : goal.invariant-loop-place
invariant-loop-place l = record {
  long : length l.self-inside.items ≡ MAX_RESERVES;
  aged : IsAged l.met l.initial.self-inside.items l.self-inside.items l.place l.kept;
}
