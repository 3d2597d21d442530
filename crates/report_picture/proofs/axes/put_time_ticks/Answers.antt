-- One more.
use Rattle.std.proofs.Common.{◌∙◌, ◌*◌, ℕ}
use Rattle.frame_picture.proofs.Drawn.{text_more}
use Rattle.report_picture.specs.Axis.{round_step}
use Rattle.report_picture.specs.Axes.{time_tick, axis_end}
use Rattle.report_picture.proofs.axes.put_time_ticks.Goals as goal

pub loop-i-preserved : goal.loop-i-preserved
loop-i-preserved g c = (
  text_more _ _ _ (λ (i : ℕ). time_tick c.args.course (round_step (axis_end c.args.course) * i)) c.loop-i.i
      c.loop-i.invariant.0
      (rw (c.round_step-step.ensures.value, c.axis_end.ensures.value) at c.in_ok-put_time_tick.ensures.0),
  c.in_ok-put_time_tick.ensures.1 ∙ c.loop-i.invariant.1,
)
