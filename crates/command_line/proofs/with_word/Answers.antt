-- The word stands behind the others.
use Rattle.std.proofs.lemmas.Result.{IfOk-at_ok, IfOk-weaker}
use Rattle.command_line.specs.Taken.{IsCommand}
use Rattle.command_line.proofs.Adding.{IsCommand-arg}
use Rattle.command_line.proofs.with_word.Goals as goal

pub returns : goal.returns
returns c name id ids subs is_command is_word =
    let was = IfOk-at_ok (λ a. IsCommand a name ids subs) c.in_ok-command.was is_command in
    IfOk-weaker _ _ _ (λ r adds. IsCommand-arg was adds is_word) c.arg.ensures
