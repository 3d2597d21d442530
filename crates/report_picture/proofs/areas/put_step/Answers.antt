-- Piece by piece.
use Rattle.report_picture.specs.Areas.{step_text}
use Rattle.frame_picture.proofs.Drawn.{then_text}
use Rattle.report_picture.proofs.areas.put_step.Goals as goal

pub returns : goal.returns
unfolding step_text
returns g c = then_text _ _ _ _ _ _ _ _ _ c.in_ok-put_stretch.ensures c.put_slots.ensures
