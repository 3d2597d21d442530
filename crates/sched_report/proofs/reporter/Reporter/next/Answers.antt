-- It is kept of the history that the auditor took.
use Rattle.std.proofs.Common.{ap, ◌∙◌}
use Rattle.sched_history.specs.Time.{next_after}
use Rattle.sched_report.specs.Window.{Window}
use Rattle.sched_report.proofs.reporter.Reporter.next.Goals as goal

pub returns : goal.returns
returns c = c.self.invariant.tally.next ∙ ap (λ (w : Window). next_after w.config w.history) c.self.view_is
