-- The numbers, one after the other.
use Rattle.frame_picture.specs.Head.{counts_text}
use Rattle.frame_picture.proofs.Drawn.{then_text}
use Rattle.frame_picture.proofs.head.put_counts.Goals as goal

pub returns : goal.returns
unfolding counts_text
returns g c =
    let frame = rw c.from-frame.ensures at c.in_ok-put_labelled-3.ensures in
    let ms = rw c.from-frame.ensures at c.in_ok-put_ms.ensures in
    then_text _ _ _ _ _ _ _ _ _ c.in_ok-put_labelled.ensures
    (then_text _ _ _ _ _ _ _ _ _ c.in_ok-put_labelled-2.ensures
    (then_text _ _ _ _ _ _ _ _ _ frame
    (then_text _ _ _ _ _ _ _ _ _ c.in_ok-put.ensures
    (then_text _ _ _ _ _ _ _ _ _ ms c.put-2.ensures))))
