-- One more.
use Rattle.std.proofs.Common.{◌∙◌}
use Rattle.frame_picture.proofs.Drawn.{text_more}
use Rattle.report_picture.specs.Areas.{step_text}
use Rattle.report_picture.proofs.areas.put_steps.Goals as goal

pub loop-i-preserved : goal.loop-i-preserved
loop-i-preserved g c = (
  text_more _ _ _ (step_text c.args.course c.args.steps.now) c.loop-i.i c.loop-i.invariant.0 c.in_ok-put_step.ensures.0,
  c.in_ok-put_step.ensures.1 ∙ c.loop-i.invariant.1,
)
