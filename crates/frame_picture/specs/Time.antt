-- Minislots in milliseconds.
use Rattle.std.specs.Prelude.{ℕ, ◌+◌, ◌*◌, ◌/◌, ◌%◌, ◌==◌, if◌then◌else◌, List, [], ◌∷◌, ◌++◌, take, decimal}

-- a point, and the four digits of so many ten-thousandths
abbrev pub fraction_digits : ℕ → List ℕ
fraction_digits parts =
    46 ∷ (48 + parts / 1000) ∷ (48 + parts / 100 % 10) ∷ (48 + parts / 10 % 10) ∷ (48 + parts % 10) ∷ []

-- how many of these are left without the zeros at the end, and without the point where nothing is behind it
unfoldable pub fraction_length : ℕ → ℕ
fraction_length parts =
    if parts == 0 then 0
    else if parts % 1000 == 0 then 2
    else if parts % 100 == 0 then 3
    else if parts % 10 == 0 then 4
    else 5

-- so many ten-thousandths, behind a whole number
abbrev pub fraction_text : ℕ → List ℕ
fraction_text parts = take (fraction_length parts) (fraction_digits parts)

-- so many minislots of so many ticks of 6.25 microseconds in milliseconds: 160 ticks are one, two of them 125
-- ten-thousandths of it
unfoldable pub ms_text : ℕ → ℕ → List ℕ
ms_text ticks slots = decimal (slots * ticks / 160) ++ fraction_text (slots * ticks % 160 * 125 / 2)
