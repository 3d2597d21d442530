-- A call is refused or accepted, and recorded.
use Rattle.std.proofs.Common.{refl}
use Rattle.sched_calls.specs.declared.reply.Reply.TheVariants.{Refused}
use Rattle.sched_history.proofs.state.Recording.{IsLegal-recorded}
use Rattle.sched_history.proofs.scheduler.Scheduler.make.Goals as goal

pub returns-in-Some-clause-recorded : goal.returns-in-Some-clause-recorded
returns-in-Some-clause-recorded c = (Refused c.in-Some.refusal, c.refuse.ensures, λ is. refl)

pub returns-in-Some-clause-legal : goal.returns-in-Some-clause-legal
returns-in-Some-clause-legal c =
    IsLegal-recorded c.args.self.now c.refuse.new.self c.args.stamp c.args.call (Refused c.in-Some.refusal)
    c.is_full.ensures.legal c.refuse.ensures

pub returns-in-Ok-clause-legal : goal.returns-in-Ok-clause-legal
returns-in-Ok-clause-legal c =
    let made = c.in-Ok.ensures.recorded in
    IsLegal-recorded c.args.self.now c.accept.new.self c.args.stamp c.args.call made.0 c.is_full.ensures.legal made.1
