use Rattle.std.proofs.Common.{arith}
use Rattle.sched_history.proofs.state.Opening.{IsSound-open}
use Rattle.sched_history.proofs.scheduler.Scheduler.open.Goals as goal

pub invariant_of-result : goal.invariant_of-result
invariant_of-result c =
    IsSound-open _ c.in_ok-state.ensures.is_after c.empty.ensures c.in_ok-with_capacity.ensures.items
    (rw (c.in_ok-state.ensures.config)
    (omega (arith, c.calls-calls.ensures.value, c.in_ok-with_capacity.ensures.exact)))
