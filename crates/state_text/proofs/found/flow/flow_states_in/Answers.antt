-- The value at the index is the first of those that are left.
use Rattle.std.proofs.Common.{◌∙◌, sym, arith}
use Rattle.state_text.specs.Found.{flow_state_in}
use Rattle.state_text.proofs.Each.{each_left-none, each_left-some, each_left-end}
use Rattle.state_text.proofs.found.flow.flow_states_in.Goals as goal

pub returns-in_default : goal.returns-in_default
returns-in_default g c =
    let at = c.loop-value in
    sym (at.invariant.0
    ∙ each_left-none g.T.Tree.shown flow_state_in c.args.values.now at.found.items at.value-index
    c.value-item.result c.loop-value-test.true c.value-item.is (sym c.in_ok-one.ensures ∙ c.in_default.is))

pub loop-value-preserved : goal.loop-value-preserved
loop-value-preserved g c =
    let at = c.loop-value in
    let step = each_left-some g.T.Tree.shown flow_state_in c.args.values.now at.found.items at.value-index
    c.value-item.result c.in-Some.one c.loop-value-test.true c.value-item.is
    (sym c.in_ok-one.ensures ∙ c.in-Some.is) in
    let pushed = c.push_reserved.ensures in
    (rw pushed.items (at.invariant.0 ∙ step), omega (arith, pushed.len), omega (arith, pushed.capacity))

pub returns : goal.returns
returns g c =
    let at = c.loop-value in
    sym (at.invariant.0
    ∙ each_left-end g.T.Tree.shown flow_state_in c.args.values.now at.found.items at.value-index
    c.loop-value-test.false)
