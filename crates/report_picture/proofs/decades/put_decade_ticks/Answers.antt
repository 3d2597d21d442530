-- One more.
use Rattle.std.proofs.Common.{◌∙◌}
use Rattle.frame_picture.proofs.Drawn.{text_more}
use Rattle.report_picture.specs.Decades.{decade_tick}
use Rattle.report_picture.proofs.decades.put_decade_ticks.Goals as goal

pub loop-i-preserved : goal.loop-i-preserved
loop-i-preserved g c = (
  text_more _ _ _ (decade_tick c.args.scale c.args.start c.args.rows) c.loop-i.i c.loop-i.invariant.0
      c.in_ok-put_decade_tick.ensures.0,
  c.in_ok-put_decade_tick.ensures.1 ∙ c.loop-i.invariant.1,
)
