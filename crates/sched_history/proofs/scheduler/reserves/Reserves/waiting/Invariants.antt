-- The opportunities before this place are told.
use Rattle.std.proofs.Common.{◌≡◌, take, length}
use Rattle.sched_history.specs.Reserves.{asked_for}
use Rattle.sched_history.proofs.scheduler.reserves.Reserves.waiting.Given as goal

abbrev pub invariant-loop-place : goal.invariant-loop-place
invariant-loop-place l = record {
  long : length l.waiting ≡ 16;
  told : take l.place l.waiting ≡ asked_for (take l.place l.self-inside.items);
}
