-- Part by part.
use Rattle.frame_picture.specs.Head.{head_text}
use Rattle.frame_picture.proofs.Drawn.{then_text}
use Rattle.frame_picture.proofs.head.put_head.Goals as goal

pub returns : goal.returns
unfolding head_text
returns g c =
    then_text _ _ _ _ _ _ _ _ _ c.in_ok-put_size.ensures
    (then_text _ _ _ _ _ _ _ _ _ c.in_ok-put_style.ensures
    (then_text _ _ _ _ _ _ _ _ _ c.in_ok-put_met_rules.ensures
    (then_text _ _ _ _ _ _ _ _ _ c.in_ok-put_shade_rules.ensures
    (then_text _ _ _ _ _ _ _ _ _ c.in_ok-put_if.ensures
    (then_text _ _ _ _ _ _ _ _ _ c.in_ok-put_dark.ensures
    (then_text _ _ _ _ _ _ _ _ _ c.in_ok-put_ground.ensures
    (then_text _ _ _ _ _ _ _ _ _ c.in_ok-put_patterns.ensures
    (then_text _ _ _ _ _ _ _ _ _ c.in_ok-put_met_patterns.ensures
    (then_text _ _ _ _ _ _ _ _ _ c.in_ok-put_usual_legend.ensures
    (then_text _ _ _ _ _ _ _ _ _ c.in_ok-put_met_keys.ensures
    (then_text _ _ _ _ _ _ _ _ _ c.in_ok-put_if-2.ensures
    (then_text _ _ _ _ _ _ _ _ _ c.in_ok-put_other_legend.ensures c.put_counts.ensures))))))))))))
