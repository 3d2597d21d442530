-- The word stands in its place.
use Rattle.std.proofs.lemmas.Result.{IfOk-weaker}
use Rattle.command_line.proofs.Adding.{IsCommand-arg}
use Rattle.command_line.proofs.storm_command.Goals as goal

pub returns : goal.returns
returns c = IfOk-weaker _ _ _ (λ r adds. IsCommand-arg c.command.ensures adds c.file_word.ensures) c.arg.ensures
