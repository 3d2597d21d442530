use Rattle.std.proofs.Common.{arith}
use Rattle.minislots.proofs.Bounds.{bounds_of}
use Rattle.sched_history.proofs.scheduler.state.State.ack.Goals as goal

pub shared_ref_as_front-least_of : goal.shared_ref_as_front-least_of
shared_ref_as_front-least_of c =
    omega (arith, (bounds_of c.args.self.now.config c.receivers.ensures.lawful).receivers_most)
