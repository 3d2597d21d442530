-- No more frames than entries.
use Rattle.std.proofs.Common.{length, ap, arith}
use Rattle.sched_report.specs.Window.{Window}
use Rattle.report_picture.proofs.Kept.{few_frames}
use Rattle.report_picture.proofs.timed.TimedReporter.over_time.Goals as goal

pub returns-clause-short : goal.returns-clause-short
returns-clause-short c =
    let same = ap (λ (w : Window). length w.history) c.self.view_is in
    omega (arith, few_frames c.args.self.now, same, c.self.invariant.short)
