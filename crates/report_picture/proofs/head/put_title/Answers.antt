-- Piece by piece.
use Rattle.report_picture.specs.Head.{title_text}
use Rattle.frame_picture.proofs.Drawn.{then_text}
use Rattle.report_picture.proofs.head.put_title.Goals as goal

pub returns : goal.returns
unfolding title_text
returns g c = then_text _ _ _ _ _ _ _ _ _ c.in_ok-put_frames_told.ensures c.put_step_told.ensures
