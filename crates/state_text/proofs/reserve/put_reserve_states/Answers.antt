-- One Reserve more, and all between their brackets.
use Rattle.std.proofs.Common.{[], subst}
use Rattle.std.proofs.lemmas.List.{take_all}
use Rattle.std.specs.List.{AllByRecursion}
use Rattle.state_text.specs.Fits.{ReserveFits}
use Rattle.state_text.specs.StateText.{reserve_state_data, reserve_states_data}
use Rattle.text_stream.proofs.Written.{where_ok}
use Rattle.history_writing.proofs.JsonTokens.{tokens-all}
use Rattle.state_text.proofs.reserve.put_reserve_states.Goals as goal

pub returns-clause-ok : goal.returns-clause-ok
unfolding reserve_states_data
returns-clause-ok c =
    let at = c.loop-reserve in
    where_ok c.end_array.result (λ ended.
    tokens-all reserve_state_data c.args.reserves.now at.reserve-index c.args.out.now.tokens [] at.out.tokens _
    c.loop-reserve-test.false at.invariant.0 ended) c.end_array.ensures.ok

pub returns-clause-fits : goal.returns-clause-fits
returns-clause-fits c =
    let at = c.loop-reserve in
    let are_all = take_all at.reserve-index c.args.reserves.now c.loop-reserve-test.false in
    let all = subst (AllByRecursion ReserveFits) are_all at.invariant.2 in
    where_ok c.end_array.result (λ _. all) c.end_array.ensures.ok
