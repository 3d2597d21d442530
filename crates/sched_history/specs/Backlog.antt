-- What waits for data grants.
use Rattle.std.specs.Prelude.{nat_lt, List, count_by, sum_by}
use Rattle.flow_book.specs.Flows.{LiveFlow, outstanding}
use Rattle.sched_history.specs.declared.scheduler.backlog.Backlog.{Backlog}

-- how many live flows have bytes outstanding, and how many bytes all of them have
abbrev pub backlog_of : List LiveFlow → Backlog
backlog_of flows = record { flows = count_by (λ f. nat_lt 0 (outstanding f)) flows; bytes = sum_by outstanding flows }
