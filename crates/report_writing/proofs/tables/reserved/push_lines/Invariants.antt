-- The lines so far stand behind the text.
use Rattle.std.proofs.Common.{◌≡◌, ◌++◌, flat_map, take}
use Rattle.report_writing.specs.ReservedTable.{reserved_line}
use Rattle.report_writing.proofs.tables.reserved.push_lines.Given as goal

abbrev pub invariant-loop-life : goal.invariant-loop-life
invariant-loop-life l =
    l.words.items ≡ l.initial.words.items ++ flat_map (reserved_line l.frame) (take l.life-index l.lives)
