-- Piece by piece.
use Rattle.report_picture.specs.Head.{frames_told}
use Rattle.frame_picture.proofs.Drawn.{then_text}
use Rattle.report_picture.proofs.head.put_frames_told.Goals as goal

pub returns : goal.returns
unfolding frames_told
returns g c =
    let frames = rw (c.from.ensures, c.microseconds-time.ensures, c.from-frame.ensures) at c.in_ok-put_filled.ensures in
    let skips = rw c.from-2.ensures at c.put_filled-2.ensures in
    then_text _ _ _ _ _ _ _ _ _ frames (then_text _ _ _ _ _ _ _ _ _ c.in_ok-put_span.ensures skips)
