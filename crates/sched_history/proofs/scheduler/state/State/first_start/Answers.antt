use Rattle.std.proofs.Common.{arith}
use Rattle.sched_history.proofs.time.FirstStarts.{IsFirstStart-rounded}
use Rattle.sched_history.proofs.scheduler.state.State.first_start.Goals as goal

pub returns : goal.returns
returns c =
    rw (c.from-frame.ensures, c.frame.ensures.value)
    (IsFirstStart-rounded c.args.self.now.config c.args.slot (omega (arith, c.frame.ensures.least)))
