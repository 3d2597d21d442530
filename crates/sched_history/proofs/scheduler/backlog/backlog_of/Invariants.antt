-- What waits of the flows before this place, which are not too many.
use Rattle.std.proofs.Common.{◌≡◌, ◌≤◌, ◌*◌, ◌-◌, ◌^◌, nat_lt, take, count_by, sum_by}
use Rattle.flow_book.specs.Flows.{outstanding}
use Rattle.sched_history.proofs.scheduler.backlog.backlog_of.Given as goal

abbrev pub invariant-loop-index : goal.invariant-loop-index
invariant-loop-index l = record {
  flows : l.flows ≡ count_by (λ f. nat_lt 0 (outstanding f)) (take l.index l.book.flows);
  bytes : l.bytes ≡ sum_by outstanding (take l.index l.book.flows);
  few : l.flows ≤ l.index;
  small : l.bytes ≤ l.index * (2 ^ 64 - 1);
}
