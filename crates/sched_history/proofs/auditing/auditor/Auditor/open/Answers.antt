use Rattle.sched_history.proofs.state.Judging.{IsKeptOf-open}
use Rattle.sched_history.proofs.auditing.auditor.Auditor.open.Goals as goal

pub invariant_of-result : goal.invariant_of-result
invariant_of-result c = rw (c.empty.ensures) (record {
  kept = IsKeptOf-open c.in_ok-open.field-0 c.in_ok-open.ensures.is_after;
  encodable = tt;
})
