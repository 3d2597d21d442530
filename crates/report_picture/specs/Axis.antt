-- Places along an axis, and the round numbers at its ticks.
use Rattle.std.specs.Prelude.{ℕ, ◌+◌, ◌*◌, ◌/◌, max, nat_le, if◌then◌else◌, List, [], ◌∷◌}
use Rattle.report_picture.specs.declared.axis.TheConstants.{ROUND}

-- the place of an amount on an axis that is so many units long and has this amount at its end: at the part of its length
-- that the amount is of that one, rounded down
abbrev pub place : ℕ → ℕ → ℕ → ℕ
place long amount full = long * amount / max full 1

-- the first of some numbers of which ten reach an amount, or else the amount
unfoldable pub first_enough : ℕ → List ℕ → ℕ
first_enough amount [] = amount
first_enough amount (step ∷ steps) = if nat_le amount (10 * step) then step else first_enough amount steps

-- how far one tick is from the next: the least round number of which ten reach the end
unfoldable pub round_step : ℕ → ℕ
round_step full = first_enough full ROUND

-- so many minislots of so many ticks of 6.25 microseconds, in microseconds, rounded to the nearest
abbrev pub microseconds : ℕ → ℕ → ℕ
microseconds ticks slots = (slots * ticks * 25 + 2) / 4
