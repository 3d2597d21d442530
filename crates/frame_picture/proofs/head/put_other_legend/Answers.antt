-- Line by line.
use Rattle.frame_picture.specs.Head.{other_legend}
use Rattle.frame_picture.proofs.Drawn.{then_text}
use Rattle.frame_picture.proofs.head.put_other_legend.Goals as goal

pub returns : goal.returns
unfolding other_legend
returns g c =
    then_text _ _ _ _ _ _ _ _ _ c.in_ok-put.ensures
    (then_text _ _ _ _ _ _ _ _ _ c.in_ok-put-2.ensures
    (then_text _ _ _ _ _ _ _ _ _ c.in_ok-put-3.ensures
    (then_text _ _ _ _ _ _ _ _ _ c.in_ok-put-4.ensures
    (then_text _ _ _ _ _ _ _ _ _ c.in_ok-put-5.ensures c.put-6.ensures))))
