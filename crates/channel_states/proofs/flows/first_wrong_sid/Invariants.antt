-- The first wrong flow of those that are left is the first of all.
use Rattle.channel_states.specs.PossibleFlow.{IsPossibleFlow}
use Rattle.channel_states.proofs.Wrong.{AreRightUpTo}
use Rattle.channel_states.proofs.flows.first_wrong_sid.Given as goal

abbrev pub invariant-loop-flow : goal.invariant-loop-flow
invariant-loop-flow l = AreRightUpTo (IsPossibleFlow l.config l.entries l.next) l.flows l.flow-index
