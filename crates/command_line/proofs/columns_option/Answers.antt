-- The id is that it was made with.
use Rattle.std.proofs.Common.{◌∙◌, ap}
use Rattle.std.proofs.lemmas.Result.{IfOk-weaker}
use Rattle.command_line.proofs.Options.{IsOption-new, IsOption-same, IsOption-requirement, place_of}
use Rattle.command_line.proofs.columns_option.Goals as goal

pub returns : goal.returns
returns c =
    let made = IsOption-same {old = c.new.result} {new = c.help.result} (IsOption-new c.new.ensures.id c.new.ensures.optional.1)
    (ap place_of c.help.ensures ∙ ap place_of c.value_parser.ensures.others ∙ ap place_of c.value_name-columns.ensures
    ∙ ap place_of c.long.ensures) in
    IfOk-weaker _ _ _ (λ r adds. IsOption-requirement made adds.0) c.requires_arg.ensures
