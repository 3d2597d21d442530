-- The starts are those of the vector.
use Rattle.std.proofs.Common.{◌∙◌}
use Rattle.sched_calls.proofs.placement.Starts.as_slice.Goals as goal

pub returns : goal.returns
returns c = c.as_slice.ensures.value ∙ c.self.view_is
