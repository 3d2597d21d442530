use Rattle.std.proofs.Common.{ap, replicate}
use Rattle.sched_history.proofs.state.Opening.{IsStateAfter-open}
use Rattle.sched_history.proofs.scheduler.state.State.open.Goals as goal

pub returns-clause-is_after : goal.returns-clause-is_after
returns-clause-is_after c =
    let e = c.start-start.ensures.value in
    IsStateAfter-open _ c.start-start.ensures.lawful c.in_ok-open.ensures.config c.in_ok-open.ensures.empty
    c.in_ok-open-2.ensures.config
    c.in_ok-open-2.ensures.empty e (ap (replicate 16) e) c.none.ensures c.of.ensures c.of-2.ensures e
