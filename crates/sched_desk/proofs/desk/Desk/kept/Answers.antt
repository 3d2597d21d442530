-- What the scheduler keeps is what is kept of the events.
use Rattle.std.proofs.Common.{ap, ◌∙◌}
use Rattle.sched_history.specs.Machine.{kept_of}
use Rattle.sched_desk.proofs.Events.{kept_of-machine}
use Rattle.sched_desk.proofs.desk.Desk.kept.Goals as goal

pub returns : goal.returns
returns g c =
    let me = c.args.self.now in
    c.history.ensures.value ∙ ap kept_of c.scheduler.ensures ∙ kept_of-machine me.config me.events
