-- A flow more is told.
use Rattle.sched_history.specs.ChannelState.{flow_state_in}
use Rattle.sched_history.proofs.state.States.{told-more}
use Rattle.sched_history.proofs.scheduler.state.State.flows.Goals as goal

pub loop-index-preserved : goal.loop-index-preserved
loop-index-preserved c =
    let s = c.args.self.now in
    told-more (flow_state_in s.config s.table.placed) s.book.flows c.loop-index.index c.loop-index.flows.items
    c.push.new.self.items c.in_ok-flow_at.field-0 c.in_ok-push.ensures.items c.loop-index.invariant
    c.in_ok-flow_at.ensures
