-- Two times the depth.
use Rattle.frame_picture.specs.Head.{size_text}
use Rattle.frame_picture.proofs.Drawn.{then_text}
use Rattle.frame_picture.proofs.head.put_size.Goals as goal

pub returns : goal.returns
unfolding size_text
returns g c =
    let wide = rw c.depth_of-depth.ensures at c.in_ok-put_labelled.ensures in
    let last = rw c.depth_of-depth.ensures at c.put_labelled-2.ensures in
    then_text _ _ _ _ _ _ _ _ _ wide last
