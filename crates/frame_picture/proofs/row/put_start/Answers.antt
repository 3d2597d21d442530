-- The number, the minislot and the millisecond.
use Rattle.frame_picture.specs.Picture.{start_text}
use Rattle.frame_picture.proofs.Drawn.{then_text}
use Rattle.frame_picture.proofs.row.put_start.Goals as goal

pub returns : goal.returns
unfolding start_text
returns g c =
    let top = rw c.row_top-top.ensures at c.in_ok-put_labelled.ensures in
    then_text _ _ _ _ _ _ _ _ _ top
    (then_text _ _ _ _ _ _ _ _ _ c.in_ok-put_labelled-2.ensures
    (then_text _ _ _ _ _ _ _ _ _ c.in_ok-put_labelled-3.ensures
    (then_text _ _ _ _ _ _ _ _ _ c.in_ok-put.ensures
    (then_text _ _ _ _ _ _ _ _ _ c.in_ok-put_ms.ensures c.put-2.ensures))))
