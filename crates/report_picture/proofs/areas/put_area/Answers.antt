-- Piece by piece.
use Rattle.report_picture.specs.Areas.{area_text}
use Rattle.frame_picture.proofs.Drawn.{then_text}
use Rattle.report_picture.proofs.areas.put_area.Goals as goal

pub returns : goal.returns
unfolding area_text
returns g c =
    let look = rw c.look_of.ensures at c.in_ok-put-2.ensures in
    then_text _ _ _ _ _ _ _ _ _ c.in_ok-put.ensures
    (then_text _ _ _ _ _ _ _ _ _ look
    (then_text _ _ _ _ _ _ _ _ _ c.in_ok-put-3.ensures
    (then_text _ _ _ _ _ _ _ _ _ c.in_ok-put_edges.ensures c.put-4.ensures)))
