-- The value at the index is the first of those that are left.
use Rattle.std.proofs.Common.{◌≡◌, ◌∙◌, sym, Some, None, arith}
use Rattle.serde_json.specs.View.{view}
use Rattle.call_reading.specs.Calls.{call_of}
use Rattle.script_reading.proofs.StormCalls.{left_after-fault, left_after-call, left_after-end}
use Rattle.script_reading.proofs.script.calls_after.Goals as goal

pub returns-in_default : goal.returns-in_default
returns-in_default c = λ _.
    let v = c.index-values-index in
    let none : call_of (view v.result) ≡ None = sym c.call_of.ensures ∙ c.in_default.is in
    c.loop-index.invariant.0
    ∙ left_after-fault c.args.before c.args.values.now c.loop-index.calls.items c.loop-index.index v.result
    c.loop-index-test.true v.is none

pub loop-index-preserved : goal.loop-index-preserved
loop-index-preserved c =
    let v = c.index-values-index in
    let call = c.in-Some.call in
    let some : call_of (view v.result) ≡ Some call = sym c.call_of.ensures ∙ c.in-Some.is in
    let step = left_after-call c.args.before c.args.values.now c.loop-index.calls.items c.loop-index.index v.result call
    c.loop-index-test.true v.is some in
    let pushed = c.push_reserved.ensures in
    (rw pushed.items (c.loop-index.invariant.0 ∙ step), omega (arith, pushed.len), omega (arith, pushed.capacity))

pub returns : goal.returns
returns c =
    c.loop-index.invariant.0
    ∙ left_after-end c.args.before c.args.values.now c.loop-index.calls.items c.loop-index.index c.loop-index-test.false
