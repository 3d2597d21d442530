-- By the place behind the kind.
use Rattle.std.proofs.Common.{codes}
use Rattle.history_reading.proofs.Spelled.{admitted_made}
use Rattle.history_reading.proofs.recorded.quick_reply.read_admitted.Goals as goal

pub returns : goal.returns
returns c = admitted_made (c.in_ok-place.ensures (codes "admitted"))
