-- Line by line.
use Rattle.frame_picture.specs.Opportunities.{met_keys}
use Rattle.frame_picture.proofs.Drawn.{then_text}
use Rattle.frame_picture.proofs.opportunities.put_met_keys.Goals as goal

pub returns : goal.returns
unfolding met_keys
returns g c =
    then_text _ _ _ _ _ _ _ _ _ c.in_ok-put.ensures
    (then_text _ _ _ _ _ _ _ _ _ c.in_ok-put-2.ensures c.put-3.ensures)
