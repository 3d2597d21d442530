-- The scheduler is that of the events.
use Rattle.std.proofs.Common.{ap, ◌∙◌}
use Rattle.sched_desk.specs.Desk.{machine_of}
use Rattle.sched_desk.proofs.desk.Desk.scheduler.Goals as goal

pub returns : goal.returns
returns g c =
    c.scheduler.ensures ∙ ap (λ s. (g.S.Records.recording s).machine) c.deref.ensures
    ∙ c.self.invariant.machine_is ∙ ap machine_of c.self.view_is
