-- Its look, and its part of all.
use Rattle.report_picture.specs.Head.{open_key}
use Rattle.frame_picture.proofs.Drawn.{then_text}
use Rattle.report_picture.proofs.legend.put_open_key.Goals as goal

pub returns : goal.returns
unfolding open_key
returns g c =
    rw c.if-not-totals.false
    (then_text _ _ _ _ _ _ _ _ _ c.in_ok-put.ensures (rw c.all_slots-all.ensures at c.put_key.ensures))
