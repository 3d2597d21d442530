-- There is one for each life.
use Rattle.std.proofs.Common.{length, ap, ◌∙◌}
use Rattle.sched_report.specs.Window.{Window, lives_told}
use Rattle.sched_report.proofs.reporter.Reporter.lives.Goals as goal

pub returns : goal.returns
returns c =
    ap length c.as_slice.ensures.value ∙ c.self.invariant.tally.lives.long
    ∙ ap (λ (w : Window). length (lives_told w)) c.self.view_is
