-- The look, the shade, the place and the width.
use Rattle.frame_picture.specs.Bars.{box_text}
use Rattle.frame_picture.proofs.Drawn.{then_text}
use Rattle.frame_picture.proofs.row.put_box.Goals as goal

pub returns : goal.returns
unfolding box_text
returns g c =
    let look = rw c.look_of.ensures at c.in_ok-put-2.ensures in
    let x = rw c.from.ensures at c.in_ok-put_labelled.ensures in
    let width = rw c.from-2.ensures at c.in_ok-put_labelled-2.ensures in
    then_text _ _ _ _ _ _ _ _ _ c.in_ok-put.ensures
    (then_text _ _ _ _ _ _ _ _ _ look
    (then_text _ _ _ _ _ _ _ _ _ c.in_ok-put_shade.ensures
    (then_text _ _ _ _ _ _ _ _ _ x
    (then_text _ _ _ _ _ _ _ _ _ width c.put-3.ensures))))
