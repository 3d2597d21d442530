-- Piece by piece.
use Rattle.report_picture.specs.Head.{style_text}
use Rattle.frame_picture.proofs.Drawn.{then_text}
use Rattle.report_picture.proofs.head.put_style.Goals as goal

pub returns : goal.returns
unfolding style_text
returns g c = then_text _ _ _ _ _ _ _ _ _ c.in_ok-put_line_style.ensures c.put_area_style.ensures
