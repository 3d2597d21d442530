-- No frame before any entry that is told of.
use Rattle.std.proofs.Common.{length, take, sym, subst, ap, arith}
use Rattle.std.proofs.lemmas.List.{drop_all}
use Rattle.frame_picture.specs.Frames.{frames_after}
use Rattle.sched_report.specs.Window.{Window}
use Rattle.report_picture.specs.Kept.{IsOverTime, IsTimed}
use Rattle.report_picture.proofs.timed.TimedReporter.renew.Goals as goal

pub invariant_of-self : goal.invariant_of-self
invariant_of-self c =
    let w = c.self.inside.reporter in
    let h = w.history in
    subst (λ (w : Window). IsTimed w c.none.result) (sym c.renew.ensures) (record {
      over_time = subst (IsOverTime w.config c.none.result)
          (sym (ap (frames_after (take (length h) h)) (drop_all (length h) h (omega arith)))) (c.none.ensures w.config);
      short = c.self.invariant.short;
      passed = omega arith;
    })
