-- A conflict with others leaves the id.
use Rattle.std.proofs.Common.{◌∙◌, ap, codes}
use Rattle.std.proofs.lemmas.Result.{IfOk-weaker}
use Rattle.command_line.proofs.Options.{IsOption-conflict, IsOption-new, IsOption-same, place_of}
use Rattle.command_line.proofs.every_option.Goals as goal

pub returns : goal.returns
returns c =
    let made = IsOption-same {old = c.new.result} {new = c.help-every.result}
    (IsOption-new c.new.ensures.id c.new.ensures.optional.1)
    (ap place_of c.help-every.ensures ∙ ap place_of c.value_parser.ensures.others
    ∙ ap place_of c.value_name-every.ensures ∙ ap place_of c.long.ensures) in
    let once = IfOk-weaker _ _ _ (λ r adds. IsOption-conflict made adds.0) c.conflicts_with.ensures in
    let twice = c.against-every.ensures (codes "every") once in
    let thrice = c.against.ensures (codes "every") twice in
    c.against-2.ensures (codes "every") thrice
