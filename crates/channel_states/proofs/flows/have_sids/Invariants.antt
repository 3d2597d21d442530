-- All flows are in order where those that are left are.
use Rattle.channel_states.proofs.Orders.{AreOrdered}
use Rattle.channel_states.proofs.flows.have_sids.Given as goal

abbrev pub invariant-loop-flow : goal.invariant-loop-flow
invariant-loop-flow l = AreOrdered l.least l.flows l.flow-index
