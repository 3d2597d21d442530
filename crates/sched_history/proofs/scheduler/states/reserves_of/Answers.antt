-- A Reserve more is told.
use Rattle.sched_history.specs.ChannelState.{reserve_state}
use Rattle.sched_history.proofs.state.States.{told-more}
use Rattle.sched_history.proofs.scheduler.states.reserves_of.Goals as goal

pub loop-place-preserved : goal.loop-place-preserved
loop-place-preserved c =
    told-more reserve_state c.args.reserves.now c.loop-place.place c.loop-place.states.items c.push.new.self.items
    c.state_at.result c.in_ok-push.ensures.items c.loop-place.invariant c.state_at.ensures
