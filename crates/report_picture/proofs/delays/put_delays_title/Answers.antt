-- Line by line.
use Rattle.report_picture.specs.Delays.{delays_title}
use Rattle.frame_picture.proofs.Drawn.{then_text}
use Rattle.report_picture.proofs.delays.put_delays_title.Goals as goal

pub returns : goal.returns
unfolding delays_title
returns g c = then_text _ _ _ _ _ _ _ _ _ c.in_ok-put.ensures
    (rw c.title_end.ensures at c.put-2.ensures)
