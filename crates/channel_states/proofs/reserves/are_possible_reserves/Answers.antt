-- The next Reserve may wait behind those before it.
use Rattle.std.proofs.Common.{refl, arith}
use Rattle.channel_states.proofs.Orders.{waiting-less}
use Rattle.channel_states.proofs.reserves.are_possible_reserves.Goals as goal

pub loop-reserve-preserved : goal.loop-reserve-preserved
loop-reserve-preserved c =
    waiting-less c.args.config.now c.args.reserves.now c.loop-reserve.most c.loop-reserve.reserve-index _
    (omega arith) (omega (arith, c.if-reserve-most.false)) (c.if-not-is_possible_reserve.ensures.possible refl)
    c.loop-reserve.invariant
