-- One bar more.
use Rattle.std.proofs.Common.{◌∙◌, false, get_or}
use Rattle.frame_picture.specs.Bar.{bar_at}
use Rattle.frame_picture.proofs.Drawn.{bars_more}
use Rattle.frame_picture.proofs.row.put_bars.Goals as goal

pub loop-i-preserved : goal.loop-i-preserved
loop-i-preserved g c = (
  bars_more _ _ _ (bar_at c.args.units (λ sid. get_or c.args.flows.now sid false) c.args.met.now c.args.elements.now
      c.args.bytes.now) c.loop-i.i c.loop-i.invariant.0
      (rw (c.bar_with-bar.ensures, c.from.ensures, c.meets_at-is_met.ensures) at c.in_ok-put_bar.ensures.0),
  c.in_ok-put_bar.ensures.1 ∙ c.loop-i.invariant.1,
)
