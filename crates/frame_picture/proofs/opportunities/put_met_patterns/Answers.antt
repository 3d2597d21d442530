-- Line by line.
use Rattle.frame_picture.specs.Opportunities.{met_patterns}
use Rattle.frame_picture.proofs.Drawn.{then_text}
use Rattle.frame_picture.proofs.opportunities.put_met_patterns.Goals as goal

pub returns : goal.returns
unfolding met_patterns
returns g c =
    then_text _ _ _ _ _ _ _ _ _ c.in_ok-put.ensures
    (then_text _ _ _ _ _ _ _ _ _ c.in_ok-put-2.ensures
    (then_text _ _ _ _ _ _ _ _ _ c.in_ok-put-3.ensures
    (then_text _ _ _ _ _ _ _ _ _ c.in_ok-put-4.ensures
    (then_text _ _ _ _ _ _ _ _ _ c.in_ok-put-5.ensures c.put-6.ensures))))
