-- The digits so far are those of the number.
use Rattle.std.proofs.Common.{◌≡◌, ◌-◌, ◌<◌, ◌≤◌, ◌^◌, ◌++◌, length, drop, decimal}
use Rattle.byte_tokens.proofs.numbers.long_number_at.Given as goal

abbrev pub invariant-digits : goal.invariant-digits
invariant-digits l = (l.from < l.at) × (l.at ≤ length l.text) × (0 < l.number) × (l.number < 2 ^ 64)
    × (drop l.from l.text ≡ decimal l.number ++ drop l.at l.text)

abbrev pub decreases-digits : goal.decreases-digits
decreases-digits l = length l.text - l.at
