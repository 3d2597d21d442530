-- The start of the frame, what was left out before it, and its bars.
use Rattle.frame_picture.specs.Picture.{map_text}
use Rattle.frame_picture.proofs.Drawn.{then_text}
use Rattle.frame_picture.proofs.row.put_row.Goals as goal

pub returns : goal.returns
unfolding map_text
returns g c =
    let left = rw c.left_out.ensures at c.in_ok-put_left.ensures in
    let bars = rw (c.as_slice-elements.ensures, c.as_slice-bytes.ensures) at c.in_ok-put_bars.ensures in
    then_text _ _ _ _ _ _ _ _ _ c.in_ok-put_start.ensures
    (then_text _ _ _ _ _ _ _ _ _ left
    (then_text _ _ _ _ _ _ _ _ _ bars c.put.ensures))
