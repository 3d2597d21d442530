-- A conflict with another option leaves the id.
use Rattle.std.proofs.lemmas.Result.{IfOk-weaker}
use Rattle.command_line.proofs.Options.{IsOption-conflict}
use Rattle.command_line.proofs.report_json_option.Goals as goal

pub returns : goal.returns
returns c = IfOk-weaker _ _ _ (λ r adds. IsOption-conflict c.flag.ensures adds.0) c.conflicts_with.ensures
