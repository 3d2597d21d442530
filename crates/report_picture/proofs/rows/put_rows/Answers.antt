-- One more.
use Rattle.std.proofs.Common.{◌∙◌}
use Rattle.frame_picture.proofs.Drawn.{text_more}
use Rattle.report_picture.specs.Delays.{row_text}
use Rattle.report_picture.proofs.rows.put_rows.Goals as goal

pub loop-i-preserved : goal.loop-i-preserved
loop-i-preserved g c = (
  text_more _ _ _ (row_text c.args.scale c.args.replaced c.args.ranks.now) c.loop-i.i c.loop-i.invariant.0
      c.in_ok-put_row.ensures.0,
  c.in_ok-put_row.ensures.1 ∙ c.loop-i.invariant.1,
)
