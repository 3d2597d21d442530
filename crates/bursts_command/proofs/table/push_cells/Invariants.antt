-- The cells so far stand behind the text.
use Rattle.std.proofs.Common.{◌≡◌, ◌++◌, flat_map}
use Rattle.std.specs.List.{range_with_len}
use Rattle.bursts_command.specs.Table.{grid_cell}
use Rattle.bursts_command.proofs.table.push_cells.Given as goal

abbrev pub invariant-loop-slots : goal.invariant-loop-slots
invariant-loop-slots l =
    l.words.items ≡ l.initial.words.items ++ flat_map (grid_cell l.config) (range_with_len 0 l.slots)
