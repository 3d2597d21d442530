-- The value is that of the state that stands in it, or of none.
use Rattle.std.proofs.Common.{◌≡◌, Some, true, false, sym, ◌∙◌, rules}
use Rattle.serde_json.specs.View.{view}
use Rattle.state_text.specs.Found.{state_in}
use Rattle.state_text.proofs.StateRead.{value_of_none, value_of_other, value_of_it}
use Rattle.state_text.proofs.reading.state_of_value.Goals as goal

pub returns-in_default-clause-exact : goal.returns-in_default-clause-exact
returns-in_default-clause-exact c =
    value_of_none (view c.args.value.now) (sym c.in_ok-state.ensures ∙ c.in_default.is)

pub returns-then-not-branch-clause-exact : goal.returns-then-not-branch-clause-exact
returns-then-not-branch-clause-exact c =
    let d = view c.args.value.now in
    let there : Some c.in-Some.state ≡ state_in d = sym c.in-Some.is ∙ c.in_ok-state.ensures in
    let no : c.in_ok-is_value_of.field-0 ≡ false = search rules in
    value_of_other d c.in-Some.state there (λ is. let yes = c.in_ok-is_value_of.ensures.value.1 is in cc)

pub returns-clause-exact : goal.returns-clause-exact
returns-clause-exact c =
    let d = view c.args.value.now in
    let there : Some c.in-Some.state ≡ state_in d = sym c.in-Some.is ∙ c.in_ok-state.ensures in
    let yes : c.in_ok-is_value_of.field-0 ≡ true = search rules in
    value_of_it d c.in-Some.state there (c.in_ok-is_value_of.ensures.value.0 yes)
