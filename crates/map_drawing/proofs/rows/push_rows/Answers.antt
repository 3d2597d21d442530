-- One row more.
use Rattle.map_drawing.specs.Rows.{row_text}
use Rattle.map_drawing.proofs.Ranges.{flat_map_step}
use Rattle.map_drawing.proofs.rows.push_rows.Goals as goal

pub loop-row-preserved : goal.loop-row-preserved
loop-row-preserved c =
    flat_map_step (row_text c.args.front.now c.args.slots c.args.width) c.loop-row.row _ _ _ c.loop-row.invariant
    c.in_ok-push_row.ensures
