-- One behind the other.
use Rattle.frame_picture.specs.Patterns.{patterns_text}
use Rattle.frame_picture.proofs.Drawn.{then_text}
use Rattle.frame_picture.proofs.patterns.put_patterns.Goals as goal

pub returns : goal.returns
unfolding patterns_text
returns g c =
    then_text _ _ _ _ _ _ _ _ _ c.in_ok-put_request_patterns.ensures
    (then_text _ _ _ _ _ _ _ _ _ c.in_ok-put_short_pattern.ensures
    (then_text _ _ _ _ _ _ _ _ _ c.in_ok-put_ranging_pattern.ensures c.put_other_patterns.ensures))
