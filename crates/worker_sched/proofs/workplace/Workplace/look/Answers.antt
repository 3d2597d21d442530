-- The scheduler is that of the desk entered, which its holder has seen.
use Rattle.std.proofs.Common.{◌∙◌}
use Rattle.sched_desk.proofs.Held.{scheduler_entered}
use Rattle.worker_sched.proofs.workplace.Workplace.look.Goals as goal

pub returns : goal.returns
returns c =
    let me = c.args.self.now in
    let told = c.scheduler.ensures in
    told.2 ∙ scheduler_entered me.config me.lock c.args.entered.now told.0 c.lock-round.ensures.desk
    c.requires.own told.1
