-- The vector has the starts.
use Rattle.sched_calls.proofs.placement.Starts.into_vec.Goals as goal

pub returns : goal.returns
returns c = c.self.view_is
