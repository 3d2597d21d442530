-- Piece by piece.
use Rattle.report_picture.specs.Delays.{delays_text}
use Rattle.frame_picture.proofs.Drawn.{then_text}
use Rattle.report_picture.proofs.delays.put_delays.Goals as goal

pub returns : goal.returns
unfolding delays_text
returns g c =
    let is = c.scale_of-scale.ensures.value in
    then_text _ _ _ _ _ _ _ _ _ (rw is at c.in_ok-put_delays_legend.ensures)
    (then_text _ _ _ _ _ _ _ _ _ c.in_ok-put_columns.ensures
    (then_text _ _ _ _ _ _ _ _ _ (rw is at c.in_ok-put_delay_ticks.ensures)
    (then_text _ _ _ _ _ _ _ _ _ (rw is at c.in_ok-put_rows.ensures)
    (then_text _ _ _ _ _ _ _ _ _ c.in_ok-put_no_rows.ensures c.put.ensures))))
