-- They are not none and not too many.
use Rattle.std.proofs.Common.{◌∙◌, sym, arith}
use Rattle.serde_json.specs.View.{items_view}
use Rattle.script_reading.proofs.StormCalls.{count_of-items, are_scripts-few, are_scripts-none, are_scripts-many}
use Rattle.script_reading.proofs.script.storms.are_scripts.Goals as goal

pub returns-then-count-eq0-clause-are : goal.returns-then-count-eq0-clause-are
returns-then-count-eq0-clause-are c = sym (are_scripts-none c.args.values.now c.if-count-eq0.true)

pub returns-then-count-gt-MAX_SCRIPTS-clause-are : goal.returns-then-count-gt-MAX_SCRIPTS-clause-are
returns-then-count-gt-MAX_SCRIPTS-clause-are c = sym (are_scripts-many c.args.values.now c.if-count-gt-MAX_SCRIPTS.true)

pub returns-clause-are : goal.returns-clause-are
returns-clause-are c =
    let count = count_of-items c.args.values.now in
    let some = c.if-count-eq0.false in
    let few = c.if-count-gt-MAX_SCRIPTS.false in
    c.are_arrays.ensures
    ∙ are_scripts-few (items_view c.args.values.now) (omega (arith, count, some)) (omega (arith, count, few))
