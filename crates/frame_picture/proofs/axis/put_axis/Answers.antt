-- The legend, and the ticks.
use Rattle.frame_picture.specs.Axis.{axis_text}
use Rattle.frame_picture.proofs.Drawn.{then_text}
use Rattle.frame_picture.proofs.axis.put_axis.Goals as goal

pub returns : goal.returns
unfolding axis_text
returns g c =
    let top = rw c.axis_top-top.ensures at c.in_ok-put_labelled.ensures in
    let ticks = rw c.rows_under.ensures.value at c.in_ok-put_ticks.ensures in
    then_text _ _ _ _ _ _ _ _ _ top
    (then_text _ _ _ _ _ _ _ _ _ c.in_ok-put.ensures
    (then_text _ _ _ _ _ _ _ _ _ ticks c.put-2.ensures))
