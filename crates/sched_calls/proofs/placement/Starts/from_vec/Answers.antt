-- The starts are those of the vector.
use Rattle.std.proofs.Common.{refl}
use Rattle.sched_calls.proofs.placement.Starts.from_vec.Goals as goal

pub returns : goal.returns
returns c = refl
