-- The lines so far stand behind the text.
use Rattle.std.proofs.Common.{◌≡◌, ◌++◌, flat_map, take}
use Rattle.bursts_command.specs.Numbers.{burst_of}
use Rattle.bursts_command.specs.Table.{burst_line}
use Rattle.bursts_command.proofs.table.push_bursts.Given as goal

abbrev pub invariant-loop-bytes : goal.invariant-loop-bytes
invariant-loop-bytes l =
    l.words.items ≡ l.initial.words.items
    ++ flat_map (λ n. burst_line (burst_of l.config n)) (take l.bytes-index l.sizes)
