-- Piece by piece.
use Rattle.report_picture.specs.Head.{step_told}
use Rattle.frame_picture.proofs.Drawn.{then_text}
use Rattle.report_picture.proofs.head.put_step_told.Goals as goal

pub returns : goal.returns
unfolding step_told
returns g c =
    let width = rw c.from.ensures at c.in_ok-put_filled.ensures in
    then_text _ _ _ _ _ _ _ _ _ width c.put.ensures
