-- The start is the first that leaves the lead.
use Rattle.std.proofs.Common.{◌+◌, ◌∙◌, subst}
use Rattle.sched_history.specs.Time.{IsFirstStart}
use Rattle.sched_history.proofs.scheduler.state.State.start_after.Goals as goal

pub returns : goal.returns
returns c =
    let s = c.args.self.now in
    subst (λ lead. IsFirstStart s.config (c.args.now + lead) c.first_start.result)
    (c.from-lead.ensures ∙ c.lead.ensures.value) c.first_start.ensures
