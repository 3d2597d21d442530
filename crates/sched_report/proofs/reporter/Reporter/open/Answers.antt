-- Nothing is taken yet.
use Rattle.std.proofs.Common.{sym, subst}
use Rattle.sched_history.specs.Machine.{Past}
use Rattle.sched_report.specs.Reported.{IsReport}
use Rattle.sched_report.proofs.reporter.Reporter.open.Goals as goal

pub invariant_of-result : goal.invariant_of-result
invariant_of-result c =
    subst (λ (p : Past). IsReport p c.in_ok-open-2.field-0) (sym c.in_ok-open.ensures)
    (record { config = c.in_ok-open-2.ensures.config; tally = c.in_ok-open-2.ensures.none })
