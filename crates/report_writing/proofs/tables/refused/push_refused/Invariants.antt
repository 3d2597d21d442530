-- The numbers so far stand behind the text, and those that were told are counted.
use Rattle.std.proofs.Common.{◌≡◌, ◌++◌, flat_map, take, count_by, nat_lt}
use Rattle.std.specs.List.{range_with_len}
use Rattle.report_writing.specs.Tables.{refused_at}
use Rattle.report_writing.proofs.tables.refused.push_refused.Given as goal

abbrev pub invariant-loop-place : goal.invariant-loop-place
invariant-loop-place l =
    (l.told ≡ count_by (nat_lt 0) (take l.place l.refused))
    × (l.words.items ≡ l.initial.words.items ++ flat_map (refused_at l.refused) (range_with_len 0 l.place))
