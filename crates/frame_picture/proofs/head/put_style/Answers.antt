-- Line by line.
use Rattle.frame_picture.specs.Head.{style_text}
use Rattle.frame_picture.proofs.Drawn.{then_text}
use Rattle.frame_picture.proofs.head.put_style.Goals as goal

pub returns : goal.returns
unfolding style_text
returns g c =
    then_text _ _ _ _ _ _ _ _ _ c.in_ok-put.ensures
    (then_text _ _ _ _ _ _ _ _ _ c.in_ok-put-2.ensures
    (then_text _ _ _ _ _ _ _ _ _ c.in_ok-put-3.ensures
    (then_text _ _ _ _ _ _ _ _ _ c.in_ok-put-4.ensures
    (then_text _ _ _ _ _ _ _ _ _ c.in_ok-put-5.ensures c.put-6.ensures))))
