-- Line by line.
use Rattle.frame_picture.specs.Patterns.{short_pattern}
use Rattle.frame_picture.proofs.Drawn.{then_text}
use Rattle.frame_picture.proofs.patterns.put_short_pattern.Goals as goal

pub returns : goal.returns
unfolding short_pattern
returns g c =
    then_text _ _ _ _ _ _ _ _ _ c.in_ok-put.ensures c.put-2.ensures
