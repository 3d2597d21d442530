-- What the help says adds no word.
use Rattle.std.proofs.Common.{◌∙◌, ap}
use Rattle.command_line.proofs.Adding.{IsCommand-new, IsCommand-same, shown_in}
use Rattle.command_line.proofs.command.Goals as goal

pub returns : goal.returns
returns c =
    IsCommand-same (IsCommand-new c.new.ensures.app c.new.ensures.local)
    (ap shown_in c.after_help.ensures ∙ ap shown_in c.about.ensures)
