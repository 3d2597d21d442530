-- Piece by piece.
use Rattle.report_picture.specs.Delays.{numbers_text}
use Rattle.frame_picture.proofs.Drawn.{then_text}
use Rattle.report_picture.proofs.spread.put_numbers.Goals as goal

pub returns : goal.returns
unfolding numbers_text
returns g c =
    let first = rw (c.microseconds-least.ensures, c.from.ensures, c.microseconds-middle.ensures, c.from-2.ensures)
    at c.in_ok-put_filled.ensures in
    let last = rw (c.microseconds-p99.ensures, c.from-3.ensures, c.microseconds-greatest.ensures, c.from-4.ensures)
    at c.put_filled-2.ensures in
    then_text _ _ _ _ _ _ _ _ _ first last
