-- The line, the minislot and the millisecond.
use Rattle.frame_picture.specs.Axis.{tick_text}
use Rattle.frame_picture.proofs.Drawn.{then_text}
use Rattle.frame_picture.proofs.axis.put_tick.Goals as goal

pub returns : goal.returns
unfolding tick_text
returns g c =
    let line = rw c.from-x.ensures at c.in_ok-put_labelled.ensures in
    let at = rw c.from-x.ensures at c.in_ok-put_labelled-3.ensures in
    let slot = rw c.from.ensures at c.in_ok-put_labelled-4.ensures in
    let again = rw c.from-x.ensures at c.in_ok-put_labelled-5.ensures in
    let ms = rw c.from-2.ensures at c.in_ok-put_ms.ensures in
    then_text _ _ _ _ _ _ _ _ _ line
    (then_text _ _ _ _ _ _ _ _ _ c.in_ok-put_labelled-2.ensures
    (then_text _ _ _ _ _ _ _ _ _ at
    (then_text _ _ _ _ _ _ _ _ _ slot
    (then_text _ _ _ _ _ _ _ _ _ again
    (then_text _ _ _ _ _ _ _ _ _ c.in_ok-put.ensures
    (then_text _ _ _ _ _ _ _ _ _ ms c.put-2.ensures))))))
