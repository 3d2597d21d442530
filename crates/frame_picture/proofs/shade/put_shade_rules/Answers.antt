-- One shade more.
use Rattle.std.proofs.Common.{◌∙◌}
use Rattle.frame_picture.specs.Shade.{shade_rule}
use Rattle.frame_picture.proofs.Drawn.{text_more}
use Rattle.frame_picture.proofs.shade.put_shade_rules.Goals as goal

pub loop-shade-preserved : goal.loop-shade-preserved
loop-shade-preserved g c = (
  text_more _ _ _ shade_rule c.loop-shade.shade c.loop-shade.invariant.0 c.in_ok-put_shade_rule.ensures.0,
  c.in_ok-put_shade_rule.ensures.1 ∙ c.loop-shade.invariant.1,
)
