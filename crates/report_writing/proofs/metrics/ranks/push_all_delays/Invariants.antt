-- The delays so far stand behind the text.
use Rattle.std.proofs.Common.{◌≡◌, ◌++◌, flat_map, take}
use Rattle.report_writing.specs.RankMetrics.{rank_delays}
use Rattle.report_writing.proofs.metrics.ranks.push_all_delays.Given as goal

abbrev pub invariant-loop-told : goal.invariant-loop-told
invariant-loop-told l =
    l.words.items ≡ l.initial.words.items ++ flat_map (rank_delays l.ticks) (take l.told-index l.ranks)
