-- Piece by piece.
use Rattle.report_picture.specs.Areas.{slots_text}
use Rattle.frame_picture.proofs.Drawn.{then_text}
use Rattle.report_picture.proofs.areas.put_slots.Goals as goal

pub returns : goal.returns
unfolding slots_text
returns g c =
    let first = rw (c.from.ensures, c.from-2.ensures, c.from-3.ensures, c.from-4.ensures, c.from-5.ensures)
    at c.in_ok-put_filled.ensures in
    let last = rw c.from-6.ensures at c.put_filled-2.ensures in
    then_text _ _ _ _ _ _ _ _ _ first (then_text _ _ _ _ _ _ _ _ _ c.in_ok-put_open_told.ensures last)
