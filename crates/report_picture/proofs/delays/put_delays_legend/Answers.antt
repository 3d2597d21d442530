-- Piece by piece.
use Rattle.report_picture.specs.Delays.{delays_legend}
use Rattle.frame_picture.proofs.Drawn.{then_text}
use Rattle.report_picture.proofs.delays.put_delays_legend.Goals as goal

pub returns : goal.returns
unfolding delays_legend
returns g c = then_text _ _ _ _ _ _ _ _ _ c.in_ok-put_delays_title.ensures c.put_marks_legend.ensures
