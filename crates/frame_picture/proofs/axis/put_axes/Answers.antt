-- One axis more.
use Rattle.std.proofs.Common.{◌∙◌}
use Rattle.frame_picture.specs.Axis.{axis_text}
use Rattle.frame_picture.proofs.Drawn.{text_more}
use Rattle.frame_picture.proofs.axis.put_axes.Goals as goal

pub loop-axis-preserved : goal.loop-axis-preserved
loop-axis-preserved g c = (
  text_more _ _ _ (axis_text c.args.scale c.args.rows) c.loop-axis.axis c.loop-axis.invariant.0
      c.in_ok-put_axis.ensures.0,
  c.in_ok-put_axis.ensures.1 ∙ c.loop-axis.invariant.1,
)
