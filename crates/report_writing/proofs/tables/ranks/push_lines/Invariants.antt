-- The lines so far stand behind the text.
use Rattle.std.proofs.Common.{◌≡◌, ◌++◌, flat_map, take}
use Rattle.report_writing.specs.Tables.{rank_line}
use Rattle.report_writing.proofs.tables.ranks.push_lines.Given as goal

abbrev pub invariant-loop-told : goal.invariant-loop-told
invariant-loop-told l =
    l.words.items ≡ l.initial.words.items ++ flat_map (rank_line l.ticks l.replaced) (take l.told-index l.ranks)
