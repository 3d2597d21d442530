-- A want of another option leaves the id.
use Rattle.std.proofs.lemmas.Result.{IfOk-weaker}
use Rattle.command_line.proofs.Options.{IsOption-requirement}
use Rattle.command_line.proofs.sync_option.Goals as goal

pub returns : goal.returns
returns c = IfOk-weaker _ _ _ (λ r adds. IsOption-requirement c.flag.ensures adds.0) c.requires_arg.ensures
