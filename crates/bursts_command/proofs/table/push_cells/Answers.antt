-- One more.
use Rattle.bursts_command.specs.Table.{grid_cell}
use Rattle.bursts_command.proofs.Ranges.{one_more}
use Rattle.bursts_command.proofs.table.push_cells.Goals as goal

pub loop-slots-preserved : goal.loop-slots-preserved
loop-slots-preserved c =
    one_more (grid_cell c.args.config.now) c.loop-slots.slots _ _ _ c.loop-slots.invariant c.in_ok-push_cell.ensures
