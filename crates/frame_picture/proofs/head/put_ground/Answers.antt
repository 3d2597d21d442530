-- As deep as the picture.
use Rattle.frame_picture.specs.Head.{ground_text}
use Rattle.frame_picture.proofs.Drawn.{then_text}
use Rattle.frame_picture.proofs.head.put_ground.Goals as goal

pub returns : goal.returns
unfolding ground_text
returns g c =
    let deep = rw c.depth_of.ensures at c.in_ok-put_labelled.ensures in
    then_text _ _ _ _ _ _ _ _ _ deep c.put.ensures
