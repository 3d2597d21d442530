-- The digits so far, where they are few, are those of the number.
use Rattle.std.proofs.Common.{◌-◌, length}
use Rattle.byte_tokens.specs.Spelled.{Spells}
use Rattle.byte_tokens.proofs.numbers.digits_behind.Given as goal

abbrev pub invariant-digits : goal.invariant-digits
invariant-digits l = Spells l.text l.from l.at l.number

abbrev pub decreases-digits : goal.decreases-digits
decreases-digits l = length l.text - l.at
