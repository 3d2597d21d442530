-- Each field is the same again.
use Rattle.std.proofs.Common.{rules}
use Rattle.sched_calls.proofs.frame_map.copy_of_wire.Goals as goal

pub returns : goal.returns
returns c = search rules
