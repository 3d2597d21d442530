-- A mark is no entry.
use Rattle.std.proofs.Common.{sym, ap, ◌∙◌, subst}
use Rattle.sched_desk.specs.Closed.{IsCounted}
use Rattle.sched_desk.specs.Events.{history_in}
use Rattle.sched_desk.proofs.Events.{history_in-marked}
use Rattle.sched_desk.proofs.docket.Docket.mark.Goals as goal

pub invariant_of-self : goal.invariant_of-self
invariant_of-self c =
    subst (IsCounted c.self.inside.counts)
    (sym (ap history_in c.and_marked-self-inside.ensures ∙ history_in-marked c.self.inside.events.items c.args.stamp))
    c.self.invariant
