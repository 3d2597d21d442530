-- The id stays.
use Rattle.std.proofs.lemmas.Result.{IfOk-at_ok, IfOk-weaker}
use Rattle.command_line.specs.Taken.{IsOption}
use Rattle.command_line.proofs.Options.{IsOption-conflict}
use Rattle.command_line.proofs.against.Goals as goal

pub returns : goal.returns
returns c id is_option =
    let is = IfOk-at_ok (λ a. IsOption a id) c.in_ok-option.was is_option in
    IfOk-weaker _ _ _ (λ r adds. IsOption-conflict is adds.0) c.conflicts_with.ensures
