-- What a bar says, word by word.
use Rattle.frame_picture.specs.Bars.{title_text}
use Rattle.frame_picture.proofs.Drawn.{then_text}
use Rattle.frame_picture.proofs.row.put_title.Goals as goal

pub returns : goal.returns
unfolding title_text
returns g c =
    let sid = rw c.from.ensures at c.in_ok-put_labelled.ensures in
    let origin = rw c.origin_of.ensures at c.in_ok-put-2.ensures in
    let words = rw c.words_in.ensures at c.in_ok-put-3.ensures in
    let offset = rw c.from-2.ensures at c.in_ok-put_labelled-2.ensures in
    let length = rw c.from-3.ensures at c.in_ok-put_labelled-3.ensures in
    let bytes = rw c.from-4.ensures at c.in_ok-put_labelled-4.ensures in
    then_text _ _ _ _ _ _ _ _ _ sid
    (then_text _ _ _ _ _ _ _ _ _ c.in_ok-put.ensures
    (then_text _ _ _ _ _ _ _ _ _ origin
    (then_text _ _ _ _ _ _ _ _ _ words
    (then_text _ _ _ _ _ _ _ _ _ offset
    (then_text _ _ _ _ _ _ _ _ _ length
    (then_text _ _ _ _ _ _ _ _ _ bytes c.put-4.ensures))))))
