-- Piece by piece.
use Rattle.report_picture.specs.Delays.{marks_text}
use Rattle.frame_picture.proofs.Drawn.{then_text}
use Rattle.report_picture.proofs.spread.put_marks.Goals as goal

pub returns : goal.returns
unfolding marks_text
returns g c =
    let range = rw (c.delay_place-least.ensures, c.delay_place-p99.ensures, c.delay_place-greatest.ensures)
    at c.in_ok-put_filled.ensures in
    let marks = rw (c.delay_place-p99.ensures, c.delay_place-middle.ensures) at c.put_filled-2.ensures in
    then_text _ _ _ _ _ _ _ _ _ range marks
