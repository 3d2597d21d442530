-- One more.
use Rattle.std.proofs.Common.{◌∙◌}
use Rattle.frame_picture.proofs.Drawn.{text_more}
use Rattle.report_picture.specs.Areas.{edge_text}
use Rattle.report_picture.proofs.areas.put_edges.Goals as goal

pub loop-i-preserved : goal.loop-i-preserved
loop-i-preserved g c = (
  text_more _ _ _ (edge_text c.args.course c.args.kind c.args.steps.now) c.loop-i.i c.loop-i.invariant.0
      c.in_ok-put_edge.ensures.0,
  c.in_ok-put_edge.ensures.1 ∙ c.loop-i.invariant.1,
)
