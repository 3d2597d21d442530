-- The command stands behind the others.
use Rattle.std.proofs.lemmas.Result.{IfOk-at_ok, IfOk-weaker}
use Rattle.command_line.specs.Taken.{IsCommand}
use Rattle.command_line.proofs.Adding.{IsCommand-sub}
use Rattle.command_line.proofs.with_command.Goals as goal

pub returns : goal.returns
returns c name called ids words subs none is_program is_command =
    let was = IfOk-at_ok (λ a. IsCommand a name ids subs) c.in_ok-program.was is_program in
    let is = IfOk-at_ok (λ a. IsCommand a called words none) c.in_ok-command.was is_command in
    IfOk-weaker _ _ _ (λ r adds. IsCommand-sub was adds is) c.subcommand.ensures
