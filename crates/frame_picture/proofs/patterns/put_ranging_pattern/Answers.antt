-- Line by line.
use Rattle.frame_picture.specs.Patterns.{ranging_pattern}
use Rattle.frame_picture.proofs.Drawn.{then_text}
use Rattle.frame_picture.proofs.patterns.put_ranging_pattern.Goals as goal

pub returns : goal.returns
unfolding ranging_pattern
returns g c =
    then_text _ _ _ _ _ _ _ _ _ c.in_ok-put.ensures
    (then_text _ _ _ _ _ _ _ _ _ c.in_ok-put-2.ensures c.put-3.ensures)
