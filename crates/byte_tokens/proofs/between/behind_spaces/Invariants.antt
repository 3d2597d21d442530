-- What was passed is white space.
use Rattle.std.proofs.Common.{◌≡◌, ◌-◌, ◌≤◌, length, drop}
use Rattle.json.specs.Lex.{between, lex}
use Rattle.byte_tokens.proofs.between.behind_spaces.Given as goal

abbrev pub invariant-spaces : goal.invariant-spaces
invariant-spaces l = (l.from ≤ l.at) × (l.at ≤ length l.text)
    × (lex between (drop l.at l.text) ≡ lex between (drop l.from l.text))

abbrev pub decreases-spaces : goal.decreases-spaces
decreases-spaces l = length l.text - l.at
