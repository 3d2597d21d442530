-- No flow lives, no frame was built, and the first one starts at the channel's start.
use Rattle.std.proofs.Common.{refl}
use Rattle.frame_picture.proofs.along.along_none.Goals as goal

pub returns-clause-known : goal.returns-clause-known
returns-clause-known c = record { flows = c.no_flows.ensures; number = refl; next = c.from.ensures }
