-- The next flow comes behind those before it.
use Rattle.std.proofs.Common.{arith}
use Rattle.channel_states.proofs.Orders.{ordered-less}
use Rattle.channel_states.proofs.flows.have_sids.Goals as goal

pub loop-flow-preserved : goal.loop-flow-preserved
loop-flow-preserved c =
    rw c.from-least.ensures
    (ordered-less c.args.flows.now c.loop-flow.least c.loop-flow.flow-index c.flow-item.result (omega arith)
    c.flow-item.is (omega arith) c.loop-flow.invariant)
