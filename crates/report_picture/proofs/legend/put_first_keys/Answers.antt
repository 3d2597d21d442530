-- Piece by piece.
use Rattle.report_picture.specs.Head.{first_keys}
use Rattle.frame_picture.proofs.Drawn.{then_text}
use Rattle.report_picture.proofs.legend.put_first_keys.Goals as goal

pub returns : goal.returns
unfolding first_keys
returns g c =
    then_text _ _ _ _ _ _ _ _ _ (rw c.all_slots-all.ensures at c.in_ok-put_key.ensures)
    (then_text _ _ _ _ _ _ _ _ _ (rw c.all_slots-all.ensures at c.in_ok-put_key-2.ensures)
    (rw c.all_slots-all.ensures at c.put_key-3.ensures))
