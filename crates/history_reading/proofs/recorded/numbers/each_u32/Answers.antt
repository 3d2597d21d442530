-- The value at the index is the first of those that are left.
use Rattle.std.proofs.Common.{◌∙◌, ◌^◌, sym, arith}
use Rattle.history_reading.proofs.Numbers.{numbers_left-none, numbers_left-number, numbers_left-end}
use Rattle.history_reading.proofs.recorded.numbers.each_u32.Goals as goal

pub returns-in_default : goal.returns-in_default
returns-in_default g c =
    let at = c.loop-value in
    sym (at.invariant.0
    ∙ numbers_left-none g.T.Tree.shown (2 ^ 32) c.args.values.now at.numbers.items at.value-index
    c.value-item.result c.loop-value-test.true c.value-item.is (sym c.in_default.ensures))

pub loop-value-preserved : goal.loop-value-preserved
loop-value-preserved g c =
    let at = c.loop-value in
    let step = numbers_left-number g.T.Tree.shown (2 ^ 32) c.args.values.now at.numbers.items at.value-index
    c.value-item.result c.in-Some.number c.loop-value-test.true c.value-item.is (sym c.in-Some.ensures) in
    let pushed = c.push_reserved.ensures in
    (rw pushed.items (at.invariant.0 ∙ step), omega (arith, pushed.len), omega (arith, pushed.capacity))

pub returns : goal.returns
returns g c =
    let at = c.loop-value in
    sym (at.invariant.0
    ∙ numbers_left-end g.T.Tree.shown (2 ^ 32) c.args.values.now at.numbers.items at.value-index
    c.loop-value-test.false)
