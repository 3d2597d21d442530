-- Line by line.
use Rattle.report_picture.specs.Head.{area_style}
use Rattle.frame_picture.proofs.Drawn.{then_text}
use Rattle.report_picture.proofs.head.put_area_style.Goals as goal

pub returns : goal.returns
unfolding area_style
returns g c =
    then_text _ _ _ _ _ _ _ _ _ c.in_ok-put.ensures
    (then_text _ _ _ _ _ _ _ _ _ c.in_ok-put-2.ensures c.put-3.ensures)
