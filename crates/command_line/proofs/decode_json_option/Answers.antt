-- A conflict with others leaves the id.
use Rattle.std.proofs.Common.{codes}
use Rattle.std.proofs.lemmas.Result.{IfOk-weaker}
use Rattle.command_line.proofs.Options.{IsOption-conflict}
use Rattle.command_line.proofs.decode_json_option.Goals as goal

pub returns : goal.returns
returns c =
    let once = IfOk-weaker _ _ _ (λ r adds. IsOption-conflict c.flag-json.ensures adds.0) c.conflicts_with.ensures in
    c.against.ensures (codes "json") once
