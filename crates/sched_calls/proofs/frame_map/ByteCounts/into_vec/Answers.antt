-- The vector of the counts.
use Rattle.std.proofs.Common.{rules}
use Rattle.sched_calls.proofs.frame_map.ByteCounts.into_vec.Goals as goal

pub returns : goal.returns
returns c = search rules
