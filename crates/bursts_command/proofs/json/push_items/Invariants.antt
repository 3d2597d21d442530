-- The bursts so far stand behind the text.
use Rattle.std.proofs.Common.{◌≡◌, ◌++◌, flat_map}
use Rattle.std.specs.List.{range_with_len}
use Rattle.bursts_command.specs.Json.{burst_item}
use Rattle.bursts_command.proofs.json.push_items.Given as goal

abbrev pub invariant-loop-index : goal.invariant-loop-index
invariant-loop-index l =
    l.words.items ≡ l.initial.words.items ++ flat_map (burst_item l.config l.sizes) (range_with_len 0 l.index)
