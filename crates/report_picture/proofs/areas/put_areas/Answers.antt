-- Piece by piece.
use Rattle.report_picture.specs.Areas.{areas_text}
use Rattle.frame_picture.proofs.Drawn.{then_text}
use Rattle.report_picture.proofs.areas.put_areas.Goals as goal

pub returns : goal.returns
unfolding areas_text
returns g c =
    then_text _ _ _ _ _ _ _ _ _ c.in_ok-put_area.ensures
    (then_text _ _ _ _ _ _ _ _ _ c.in_ok-put_open_area.ensures
    (then_text _ _ _ _ _ _ _ _ _ c.in_ok-put_area-2.ensures
    (then_text _ _ _ _ _ _ _ _ _ c.in_ok-put_area-3.ensures
    (then_text _ _ _ _ _ _ _ _ _ c.in_ok-put_area-4.ensures
    (then_text _ _ _ _ _ _ _ _ _ c.in_ok-put_area-5.ensures c.put_area-6.ensures)))))
