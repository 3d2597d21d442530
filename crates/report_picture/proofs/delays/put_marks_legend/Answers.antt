-- Line by line.
use Rattle.report_picture.specs.Delays.{marks_legend}
use Rattle.frame_picture.proofs.Drawn.{then_text}
use Rattle.report_picture.proofs.delays.put_marks_legend.Goals as goal

pub returns : goal.returns
unfolding marks_legend
returns g c =
    then_text _ _ _ _ _ _ _ _ _ c.in_ok-put.ensures
    (then_text _ _ _ _ _ _ _ _ _ c.in_ok-put-2.ensures
    (then_text _ _ _ _ _ _ _ _ _ c.in_ok-put-3.ensures
    (then_text _ _ _ _ _ _ _ _ _ c.in_ok-put-4.ensures c.put-5.ensures)))
