-- The id is that of the flag.
use Rattle.command_line.proofs.frames_flag.Goals as goal

pub returns : goal.returns
returns c = c.flag.ensures
