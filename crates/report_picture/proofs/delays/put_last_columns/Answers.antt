-- Line by line.
use Rattle.report_picture.specs.Delays.{last_columns}
use Rattle.frame_picture.proofs.Drawn.{then_text}
use Rattle.report_picture.proofs.delays.put_last_columns.Goals as goal

pub returns : goal.returns
unfolding last_columns
returns g c = rw c.if-not-replaced.false (then_text _ _ _ _ _ _ _ _ _ c.in_ok-put.ensures c.put-3.ensures)
