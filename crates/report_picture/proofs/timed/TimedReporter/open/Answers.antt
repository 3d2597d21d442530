-- No frame before any entry.
use Rattle.std.proofs.Common.{sym, subst, arith}
use Rattle.sched_report.specs.Window.{Window}
use Rattle.report_picture.specs.Kept.{IsTimed}
use Rattle.report_picture.proofs.timed.TimedReporter.open.Goals as goal

pub invariant_of-result : goal.invariant_of-result
invariant_of-result c =
    subst (λ (w : Window). IsTimed w c.in_ok-new.field-0.value) (sym c.in_ok-open.ensures)
    (record {
      over_time = rw c.in_ok-new.ensures.ok (c.none.ensures c.args.config);
      short = omega arith;
      passed = omega arith;
    })
