-- The numbers so far stand before what is left.
use Rattle.std.proofs.Common.{◌≡◌, ◌-◌, ◌≤◌, ◌++◌, true, length, drop}
use Rattle.byte_tokens.specs.declared.between.Before.{Before}
use Rattle.byte_tokens.specs.Left.{tokens_from, begins_at}
use Rattle.byte_tokens.specs.Listed.{number_tokens}
use Rattle.byte_tokens.proofs.listed.numbers_at.Given as goal

abbrev pub invariant-more : goal.invariant-more
invariant-more l = (l.at ≤ length l.text)
    × ((b : Before) → begins_at b ≡ true
    → tokens_from b (drop l.from l.text) ≡ number_tokens l.numbers.items ++ tokens_from l.before (drop l.at l.text))

abbrev pub decreases-more : goal.decreases-more
decreases-more l = length l.text - l.at
