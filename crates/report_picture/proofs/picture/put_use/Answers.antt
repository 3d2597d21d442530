-- Piece by piece.
use Rattle.report_picture.specs.Picture.{use_text}
use Rattle.frame_picture.proofs.Drawn.{then_text}
use Rattle.report_picture.proofs.picture.put_use.Goals as goal

pub returns : goal.returns
unfolding use_text
returns g c =
    then_text _ _ _ _ _ _ _ _ _ c.in_ok-put.ensures
    (then_text _ _ _ _ _ _ _ _ _ c.in_ok-put_areas.ensures
    (then_text _ _ _ _ _ _ _ _ _ c.in_ok-put_axes.ensures
    (then_text _ _ _ _ _ _ _ _ _ c.in_ok-put_steps.ensures
    (then_text _ _ _ _ _ _ _ _ _ c.in_ok-put_no_frames.ensures c.put-2.ensures))))
