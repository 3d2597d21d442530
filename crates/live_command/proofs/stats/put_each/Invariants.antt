-- Numbers are put one after the other.
use Rattle.std.proofs.Common.{◌≡◌, ◌++◌, take, flat_map}
use Rattle.live_command.specs.Stats.{next_text}
use Rattle.live_command.proofs.stats.put_each.Given as goal

-- the numbers so far are behind the text
abbrev pub invariant-loop-number : goal.invariant-loop-number
invariant-loop-number l =
    l.text.items ≡ l.initial.text.items ++ flat_map next_text (take l.number-index l.numbers)
