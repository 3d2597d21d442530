-- Its version and its want of a command add no word.
use Rattle.std.proofs.Common.{◌∙◌, ap}
use Rattle.command_line.proofs.Adding.{IsCommand-same, shown_in}
use Rattle.command_line.proofs.program.Goals as goal

pub returns : goal.returns
returns c =
    IsCommand-same c.command.ensures
    (ap shown_in c.subcommand_required.ensures ∙ ap shown_in c.version.ensures)
