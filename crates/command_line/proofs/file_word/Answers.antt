-- The id is that it was made with.
use Rattle.std.proofs.Common.{◌∙◌, ap}
use Rattle.command_line.proofs.Options.{IsOption-new, IsOption-same, place_of}
use Rattle.command_line.proofs.file_word.Goals as goal

pub returns : goal.returns
returns c =
    IsOption-same {old = c.new.result} (IsOption-new c.new.ensures.id c.new.ensures.optional.1)
    (ap place_of c.help.ensures)
