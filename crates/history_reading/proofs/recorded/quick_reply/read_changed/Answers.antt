-- By the place behind the kind.
use Rattle.std.proofs.Common.{codes}
use Rattle.history_reading.proofs.Spelled.{changed_made}
use Rattle.history_reading.proofs.recorded.quick_reply.read_changed.Goals as goal

pub returns : goal.returns
returns c = changed_made (c.in_ok-place.ensures (codes "changed"))
