-- Rows, one after the other.
use Rattle.std.proofs.Common.{◌≡◌, ◌++◌, flat_map}
use Rattle.std.specs.List.{range_with_len}
use Rattle.map_drawing.specs.Rows.{row_text}
use Rattle.map_drawing.proofs.rows.push_rows.Given as goal

-- the rows so far stand behind the text
abbrev pub invariant-loop-row : goal.invariant-loop-row
invariant-loop-row l =
    l.text.items ≡ l.initial.text.items ++ flat_map (row_text l.front l.slots l.width) (range_with_len 0 l.row)
