-- Piece by piece.
use Rattle.report_picture.specs.Axes.{time_name}
use Rattle.frame_picture.proofs.Drawn.{then_text}
use Rattle.report_picture.proofs.axes.put_time_name.Goals as goal

pub returns : goal.returns
unfolding time_name
returns g c =
    let unit = rw c.unit_name.ensures at c.in_ok-put-2.ensures in
    then_text _ _ _ _ _ _ _ _ _ c.in_ok-put.ensures (then_text _ _ _ _ _ _ _ _ _ unit c.put-3.ensures)
