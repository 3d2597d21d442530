-- One flow more, and all flows between their brackets.
use Rattle.std.proofs.Common.{[], subst}
use Rattle.std.proofs.lemmas.List.{take_all}
use Rattle.std.specs.List.{AllByRecursion}
use Rattle.state_text.specs.Fits.{FlowStateFits}
use Rattle.state_text.specs.StateText.{flow_state_data, flow_states_data}
use Rattle.text_stream.proofs.Written.{where_ok}
use Rattle.history_writing.proofs.JsonTokens.{tokens-all}
use Rattle.state_text.proofs.flow.put_flow_states.Goals as goal

pub returns-clause-ok : goal.returns-clause-ok
unfolding flow_states_data
returns-clause-ok c =
    let at = c.loop-flow in
    where_ok c.end_array.result (λ ended.
    tokens-all flow_state_data c.args.flows.now at.flow-index c.args.out.now.tokens [] at.out.tokens _
    c.loop-flow-test.false at.invariant.0 ended) c.end_array.ensures.ok

pub returns-clause-fits : goal.returns-clause-fits
returns-clause-fits c =
    let at = c.loop-flow in
    let are_all = take_all at.flow-index c.args.flows.now c.loop-flow-test.false in
    let all = subst (AllByRecursion FlowStateFits) are_all at.invariant.2 in
    where_ok c.end_array.result (λ _. all) c.end_array.ensures.ok
