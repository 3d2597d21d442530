-- Templates, and the numbers that stand in their holes.
use Rattle.std.specs.Prelude.{ℕ, ◌+◌, ◌/◌, ◌%◌, ◌==◌, ◌||◌, Bool, if◌then◌else◌, List, [], ◌∷◌, ◌++◌, decimal}
use Rattle.std.specs.Prelude.{take, length, get_or, slice_get, count_by, flat_map, Option, None, Some}
use Rattle.std.specs.List.{range_with_len}

-- whether a character of a template is a hole: '@' for a number, '~' for one in tenths, '^' for one in thousandths
unfoldable pub is_hole : ℕ → Bool
is_hole c = c == 64 || (c == 126 || c == 94)

-- so many tenths: a whole number, a point and one digit
unfoldable pub tenths_text : ℕ → List ℕ
tenths_text n = decimal (n / 10) ++ 46 ∷ (48 + n % 10) ∷ []

-- so many thousandths: a whole number, a point and three digits
unfoldable pub thousandths_text : ℕ → List ℕ
thousandths_text n =
    decimal (n / 1000) ++ 46 ∷ (48 + n / 100 % 10) ∷ (48 + n / 10 % 10) ∷ (48 + n % 10) ∷ []

-- a number in a hole
unfoldable pub number_text : ℕ → ℕ → List ℕ
number_text c n = if c == 64 then decimal n else if c == 126 then tenths_text n else thousandths_text n

-- a character of a template, with the number that is next, where one is left: a hole takes it
unfoldable pub part_text : ℕ → Option ℕ → List ℕ
part_text c None = c ∷ []
part_text c (Some n) = if is_hole c then number_text c n else c ∷ []

-- how many holes a text has
abbrev pub holes : List ℕ → ℕ
holes cs = count_by is_hole cs

-- a template in whose holes these numbers stand, the first in the first one
unfoldable pub filled : List ℕ → List ℕ → List ℕ
filled template numbers =
    flat_map (λ i. part_text (get_or template i 0) (slice_get numbers (holes (take i template))))
    (range_with_len 0 (length template))
