-- Piece by piece.
use Rattle.report_picture.specs.Head.{head_text}
use Rattle.frame_picture.proofs.Drawn.{then_text}
use Rattle.report_picture.proofs.head.put_head.Goals as goal

pub returns : goal.returns
unfolding head_text
returns g c =
    then_text _ _ _ _ _ _ _ _ _ c.in_ok-put_size.ensures
    (then_text _ _ _ _ _ _ _ _ _ c.in_ok-put_style.ensures
    (then_text _ _ _ _ _ _ _ _ _ c.in_ok-put_request_patterns.ensures
    (then_text _ _ _ _ _ _ _ _ _ c.in_ok-put_other_patterns.ensures
    (then_text _ _ _ _ _ _ _ _ _ c.in_ok-put_title.ensures
    (then_text _ _ _ _ _ _ _ _ _ c.in_ok-put_first_keys.ensures
    (then_text _ _ _ _ _ _ _ _ _ c.in_ok-put_last_keys.ensures c.put_open_key.ensures))))))
