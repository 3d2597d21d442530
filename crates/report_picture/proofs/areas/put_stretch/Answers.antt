-- Piece by piece.
use Rattle.report_picture.specs.Areas.{stretch_text}
use Rattle.frame_picture.proofs.Drawn.{then_text}
use Rattle.report_picture.proofs.areas.put_stretch.Goals as goal

pub returns : goal.returns
unfolding stretch_text
returns g c =
    let place = rw (
      c.begin_place.ensures,
      c.end_place.ensures,
      c.from.ensures,
      c.from-2.ensures,
      c.saturating_sub.ensures,
      c.first_frame.ensures,
      c.frame_behind.ensures,
    ) at c.in_ok-put_filled.ensures in
    let time = rw (
      c.microseconds.ensures,
      c.microseconds-2.ensures,
      c.time_since.ensures.value,
      c.time_since-2.ensures.value,
      c.from-3.ensures,
      c.end_of.ensures.value,
    ) at c.put_filled-2.ensures in
    then_text _ _ _ _ _ _ _ _ _ place time
