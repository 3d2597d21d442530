-- Each flow gone through may be as it is, or it is the first that cannot.
use Rattle.std.proofs.Common.{refl, arith}
use Rattle.channel_states.specs.PossibleFlow.{IsPossibleFlow}
use Rattle.channel_states.proofs.Wrong.{right-more, right-not, right-wrong}
use Rattle.channel_states.proofs.flows.first_wrong_sid.Goals as goal

pub returns-then-not-is_possible_flow-clause-impossible : goal.returns-then-not-is_possible_flow-clause-impossible
returns-then-not-is_possible_flow-clause-impossible c =
    right-not (IsPossibleFlow c.args.config.now c.args.entries c.args.next) c.args.flows.now c.loop-flow.flow-index
    c.flow-item.result (omega arith) c.flow-item.is (c.if-not-is_possible_flow.ensures.impossible refl)

pub returns-then-not-is_possible_flow-clause-first : goal.returns-then-not-is_possible_flow-clause-first
returns-then-not-is_possible_flow-clause-first c =
    right-wrong (IsPossibleFlow c.args.config.now c.args.entries c.args.next) c.args.flows.now c.loop-flow.flow-index
    c.flow-item.result (omega arith) c.flow-item.is (c.if-not-is_possible_flow.ensures.impossible refl)
    c.loop-flow.invariant

pub loop-flow-preserved : goal.loop-flow-preserved
loop-flow-preserved c =
    right-more (IsPossibleFlow c.args.config.now c.args.entries c.args.next) c.args.flows.now c.loop-flow.flow-index
    c.flow-item.result (omega arith) c.flow-item.is (c.if-not-is_possible_flow.ensures.possible refl)
    c.loop-flow.invariant
