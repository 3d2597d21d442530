-- The Reserves gone through.
use Rattle.std.proofs.Common.{◌≡◌, map, take}
use Rattle.sched_history.specs.ChannelState.{reserve_state}
use Rattle.sched_history.proofs.scheduler.states.reserves_of.Given as goal

abbrev pub invariant-loop-place : goal.invariant-loop-place
invariant-loop-place l = l.states.items ≡ take l.place (map reserve_state l.reserves)
