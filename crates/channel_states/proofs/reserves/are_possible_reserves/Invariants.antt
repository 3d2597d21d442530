-- All Reserves may wait in order where those that are left may.
use Rattle.channel_states.proofs.Orders.{AreWaiting}
use Rattle.channel_states.proofs.reserves.are_possible_reserves.Given as goal

abbrev pub invariant-loop-reserve : goal.invariant-loop-reserve
invariant-loop-reserve l = AreWaiting l.config l.most l.reserves l.reserve-index
