-- There are at most 16 receivers.
use Rattle.std.proofs.Common.{arith}
use Rattle.minislots.proofs.Bounds.{bounds_of}
use Rattle.sched_history.proofs.scheduler.state.State.receivers.Goals as goal

pub shared_ref_as_front-from_slice : goal.shared_ref_as_front-from_slice
shared_ref_as_front-from_slice c =
    omega (arith, (bounds_of c.args.self.now.config c.receivers.ensures.lawful).receivers_most)
