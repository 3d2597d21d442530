-- The array at the index is the first of those that are left.
use Rattle.std.proofs.Common.{◌≡◌, ◌+◌, [], ◌∷◌, ◌++◌, length, ◌∙◌, ap, sym, Some, arith}
use Rattle.serde_json.specs.Find.{as_array}
use Rattle.serde_json.specs.View.{view, items_view}
use Rattle.std.specs.Global.{Vec}
use Rattle.sched_calls.specs.declared.call.Call.{Call}
use Rattle.script_reading.specs.StormScript.{calls_each, scripts_of}
use Rattle.script_reading.proofs.Calls.{Gives-err}
use Rattle.script_reading.proofs.StormCalls.{left_scripts, left_scripts-none, left_scripts-fault, left_scripts-script}
use Rattle.script_reading.proofs.StormCalls.{left_scripts-end, calls_each-push}
use Rattle.script_reading.proofs.script.storms.scripts_of.Goals as goal

pub returns-in_default-clause-are : goal.returns-in_default-clause-are
returns-in_default-clause-are c = λ _.
    c.loop-array.invariant.left
    ∙ left_scripts-none c.args.arrays.now (calls_each c.loop-array.scripts.items) c.loop-array.before
    c.loop-array.array-index c.array-item.result
    c.loop-array-test.true c.array-item.is (sym c.in_default.ensures)

pub returns-in_err-calls-clause-are : goal.returns-in_err-calls-clause-are
returns-in_err-calls-clause-are c =
    let items = items_view c.deref.result.now in
    let some : as_array (view c.array-item.result) ≡ Some items = sym c.in-Some.ensures
    ∙ ap (λ l. Some (items_view l)) (sym c.deref.ensures.value) in
    let fault = c.in_err-calls.field-0.0 in
    Gives-err (λ (v : Vec (Vec Call)). calls_each v.items) c.from_residual-in_err-calls.result
    (scripts_of 0 (items_view c.args.arrays.now)) fault c.from_residual-in_err-calls.ensures.1 (λ known.
    c.loop-array.invariant.left
    ∙ left_scripts-fault c.args.arrays.now (calls_each c.loop-array.scripts.items) c.loop-array.before
    c.loop-array.array-index c.array-item.result items fault
    c.loop-array-test.true c.array-item.is some (c.in_err-calls.ensures known))

pub loop-array-preserved : goal.loop-array-preserved
loop-array-preserved c =
    let items = items_view c.deref.result.now in
    let some : as_array (view c.array-item.result) ≡ Some items = sym c.in-Some.ensures
    ∙ ap (λ l. Some (items_view l)) (sym c.deref.ensures.value) in
    let pushed = c.push_reserved.ensures in
    let scripts = calls_each c.loop-array.scripts.items in
    let calls = c.in_ok-calls.calls.items in
    let step = left_scripts-script c.args.arrays.now scripts c.loop-array.before c.loop-array.array-index
    c.array-item.result items calls
    c.loop-array-test.true c.array-item.is some c.in_ok-calls.ensures in
    let more : calls_each c.push_reserved.new.self.items ≡ scripts ++ calls ∷ [] = ap calls_each pushed.items
    ∙ calls_each-push c.loop-array.scripts.items c.in_ok-calls.calls in
    let count : c.count_calls-before.result ≡ length calls = c.count_calls-before.ensures.value
    ∙ ap length c.deref-in-loop-array.ensures.value in
    record {
      left = c.loop-array.invariant.left ∙ step
          ∙ ap (λ l. left_scripts c.args.arrays.now l (c.loop-array.before + length calls)
          (c.loop-array.array-index + 1)) (sym more)
          ∙ ap (λ n. left_scripts c.args.arrays.now (calls_each c.push_reserved.new.self.items)
          (c.loop-array.before + n) (c.loop-array.array-index + 1)) (sym count);
      len = let a = pushed.len in let b = c.loop-array.invariant.len in omega (arith, a, b);
      room = let a = pushed.capacity in let b = c.loop-array.invariant.room in omega (arith, a, b);
      bound = let a = c.loop-array.invariant.bound in let few = c.count_calls-before.ensures.few in
          omega (arith, a, few);
    }

pub returns-clause-are : goal.returns-clause-are
returns-clause-are c =
    c.loop-array.invariant.left
    ∙ left_scripts-end c.args.arrays.now (calls_each c.loop-array.scripts.items) c.loop-array.before
    c.loop-array.array-index c.loop-array-test.false
