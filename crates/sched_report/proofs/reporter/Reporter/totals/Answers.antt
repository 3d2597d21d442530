-- What is kept is of what is told of the history that the auditor took.
use Rattle.std.proofs.Common.{ap, ◌∙◌}
use Rattle.sched_report.specs.Window.{totals_told}
use Rattle.sched_report.proofs.reporter.Reporter.totals.Goals as goal

pub returns : goal.returns
returns c = c.self.invariant.tally.totals.value ∙ ap totals_told c.self.view_is
