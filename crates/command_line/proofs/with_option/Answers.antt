-- The option stands behind the other words.
use Rattle.std.proofs.lemmas.Result.{IfOk-at_ok, IfOk-weaker}
use Rattle.command_line.specs.Taken.{IsCommand, IsOption}
use Rattle.command_line.proofs.Adding.{IsCommand-arg}
use Rattle.command_line.proofs.with_option.Goals as goal

pub returns : goal.returns
returns c name id ids subs is_command is_option =
    let was = IfOk-at_ok (λ a. IsCommand a name ids subs) c.in_ok-command.was is_command in
    let is = IfOk-at_ok (λ a. IsOption a id) c.in_ok-option.was is_option in
    IfOk-weaker _ _ _ (λ r adds. IsCommand-arg was adds is) c.arg.ensures
