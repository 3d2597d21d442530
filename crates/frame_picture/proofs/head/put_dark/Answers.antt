-- Line by line.
use Rattle.frame_picture.specs.Head.{dark_text}
use Rattle.frame_picture.proofs.Drawn.{then_text}
use Rattle.frame_picture.proofs.head.put_dark.Goals as goal

pub returns : goal.returns
unfolding dark_text
returns g c =
    then_text _ _ _ _ _ _ _ _ _ c.in_ok-put.ensures c.put-2.ensures
