-- The value at the index is the first of those that are left.
use Rattle.std.proofs.Common.{◌≡◌, ◌∙◌, sym, Some, None, arith}
use Rattle.serde_json.specs.View.{view}
use Rattle.history_reading.specs.Replies.{entry_of}
use Rattle.history_reading.proofs.Entries.{entries_left-fault, entries_left-entry, entries_left-end}
use Rattle.history_reading.proofs.recorded.entries_of.Goals as goal

pub returns-in_default : goal.returns-in_default
returns-in_default c = λ _.
    let v = c.index-values-index in
    let none : entry_of (view v.result) ≡ None = sym c.in_ok-entry.ensures ∙ c.in_default.is in
    c.loop-index.invariant.0
    ∙ entries_left-fault c.args.values.now c.loop-index.entries.items c.loop-index.index v.result
    c.loop-index-test.true v.is none

pub loop-index-preserved : goal.loop-index-preserved
loop-index-preserved c =
    let v = c.index-values-index in
    let entry = c.in-Some.entry in
    let some : entry_of (view v.result) ≡ Some entry = sym c.in_ok-entry.ensures ∙ c.in-Some.is in
    let step = entries_left-entry c.args.values.now c.loop-index.entries.items c.loop-index.index v.result entry
    c.loop-index-test.true v.is some in
    let pushed = c.push_reserved.ensures in
    (rw pushed.items (c.loop-index.invariant.0 ∙ step), omega (arith, pushed.len), omega (arith, pushed.capacity))

pub returns : goal.returns
returns c =
    c.loop-index.invariant.0
    ∙ entries_left-end c.args.values.now c.loop-index.entries.items c.loop-index.index c.loop-index-test.false
