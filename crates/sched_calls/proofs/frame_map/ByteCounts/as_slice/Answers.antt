-- All counts are shown.
use Rattle.std.proofs.Common.{rules}
use Rattle.sched_calls.proofs.frame_map.ByteCounts.as_slice.Goals as goal

pub returns : goal.returns
returns c = search rules
