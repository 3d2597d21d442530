-- Line by line.
use Rattle.frame_picture.specs.Patterns.{other_patterns}
use Rattle.frame_picture.proofs.Drawn.{then_text}
use Rattle.frame_picture.proofs.patterns.put_other_patterns.Goals as goal

pub returns : goal.returns
unfolding other_patterns
returns g c =
    then_text _ _ _ _ _ _ _ _ _ c.in_ok-put.ensures
    (then_text _ _ _ _ _ _ _ _ _ c.in_ok-put-2.ensures
    (then_text _ _ _ _ _ _ _ _ _ c.in_ok-put-3.ensures c.put-4.ensures))
