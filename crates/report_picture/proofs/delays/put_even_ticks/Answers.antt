-- One more.
use Rattle.std.proofs.Common.{◌∙◌, ◌*◌, ℕ}
use Rattle.frame_picture.proofs.Drawn.{text_more}
use Rattle.report_picture.specs.Axis.{round_step}
use Rattle.report_picture.specs.Delays.{delay_tick}
use Rattle.report_picture.proofs.delays.put_even_ticks.Goals as goal

pub loop-i-preserved : goal.loop-i-preserved
loop-i-preserved g c = (
  text_more _ _ _ (λ (i : ℕ). delay_tick c.args.scale c.args.rows (round_step c.args.scale.tenths * i)) c.loop-i.i
      c.loop-i.invariant.0
      (rw c.round_step-step.ensures.value at c.in_ok-put_delay_tick.ensures.0),
  c.in_ok-put_delay_tick.ensures.1 ∙ c.loop-i.invariant.1,
)
