-- The whole minislots of the time.
use Rattle.std.proofs.Common.{rules}
use Rattle.minislots.proofs.config.Checked.slots_floor.Goals as goal

pub returns : goal.returns
returns c = search rules
