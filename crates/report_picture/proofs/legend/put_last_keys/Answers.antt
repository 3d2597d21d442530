-- Piece by piece.
use Rattle.report_picture.specs.Head.{last_keys}
use Rattle.frame_picture.proofs.Drawn.{then_text}
use Rattle.report_picture.proofs.legend.put_last_keys.Goals as goal

pub returns : goal.returns
unfolding last_keys
returns g c =
    then_text _ _ _ _ _ _ _ _ _ (rw c.all_slots-all.ensures at c.in_ok-put_key.ensures)
    (then_text _ _ _ _ _ _ _ _ _ (rw c.all_slots-all.ensures at c.in_ok-put_key-2.ensures)
    (rw c.all_slots-all.ensures at c.put_key-3.ensures))
