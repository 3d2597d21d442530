-- The flows gone through.
use Rattle.std.proofs.Common.{◌≡◌, map, take}
use Rattle.sched_history.specs.ChannelState.{flow_state_in}
use Rattle.sched_history.proofs.scheduler.state.State.flows.Given as goal

abbrev pub invariant-loop-index : goal.invariant-loop-index
invariant-loop-index l =
    l.flows.items ≡ take l.index (map (flow_state_in l.self.config l.self.table.placed) l.self.book.flows)
