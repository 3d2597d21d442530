-- Numbers in the columns of a table.
use Rattle.std.specs.Prelude.{ℕ, ◌+◌, ◌-◌, ◌*◌, ◌/◌, ◌%◌, ◌^◌, ◌==◌, nat_le, Bool, if◌then◌else◌, List, [], ◌∷◌, ◌++◌}
use Rattle.std.specs.Prelude.{length, replicate, codes, decimal, Option, None, Some}
use Rattle.std.specs.List.{range_with_len, position_or_len}

-- so many spaces
unfoldable pub spaces : ℕ → List ℕ
spaces n = replicate n 32

-- a text at the left edge of a column of so many places
unfoldable pub left : ℕ → List ℕ → List ℕ
left places text = text ++ spaces (places - length text)

-- a text at the right edge of one, behind a space
unfoldable pub right : ℕ → List ℕ → List ℕ
right places text = spaces (places + 1 - length text) ++ text

-- so many places of a column, or one fewer where its table has a column more
abbrev pub narrower : Bool → ℕ → ℕ
narrower more places = if more then places - 1 else places

-- what stands behind a number that is told in so many times a thousand
unfoldable pub unit_name : ℕ → List ℕ
unit_name power =
    if power == 0 then [] else if power == 1 then codes "k" else if power == 2 then codes "M"
    else if power == 3 then codes "G" else if power == 4 then codes "T" else if power == 5 then codes "P"
    else if power == 6 then codes "E" else if power == 7 then codes "Z" else if power == 8 then codes "Y"
    else if power == 9 then codes "R" else codes "Q"

-- a number in ones, in thousands, in thousands of those and so on, rounded down
unfoldable pub in_unit : ℕ → ℕ → List ℕ
in_unit n power = decimal (n / 1000 ^ power) ++ unit_name power

-- whether it has room there in so many places
abbrev pub has_room : ℕ → ℕ → ℕ → Bool
has_room places n power = nat_le (length (in_unit n power)) places

-- the first of these units in which it has room, or else the last, which is the tenth power
unfoldable pub unit_for : ℕ → ℕ → ℕ
unit_for places n = position_or_len (has_room places n) (range_with_len 0 10)

-- a number in that unit
unfoldable pub fitted : ℕ → ℕ → List ℕ
fitted places n = in_unit n (unit_for places n)

-- a number in a column
unfoldable pub number_column : ℕ → ℕ → List ℕ
number_column places n = right places (fitted places n)

-- a number, where there is one
abbrev pub number_or_none : ℕ → Option ℕ → List ℕ
number_or_none places None = right places (codes "-")
number_or_none places (Some n) = number_column places n

-- so many minislots of so many ticks of 6.25 microseconds, in microseconds, rounded to the nearest
abbrev pub microseconds : ℕ → ℕ → ℕ
microseconds ticks minislots = (minislots * ticks * 25 + 2) / 4

-- a point and the three digits of so many thousandths
abbrev pub thousandths_end : ℕ → List ℕ
thousandths_end n = 46 ∷ (48 + n / 100 % 10) ∷ (48 + n / 10 % 10) ∷ (48 + n % 10) ∷ []

-- so many thousandths: a whole number, a point and three digits
unfoldable pub thousandths_text : ℕ → List ℕ
thousandths_text n = decimal (n / 1000) ++ thousandths_end n

-- so many microseconds in milliseconds, with thousandths where these have room in so many places, or else whole ones
unfoldable pub ms_text : ℕ → ℕ → List ℕ
ms_text places microseconds =
    if nat_le (length (thousandths_text microseconds)) places then thousandths_text microseconds
    else fitted places (microseconds / 1000)

-- the time of so many minislots in a column
unfoldable pub ms_column : ℕ → ℕ → ℕ → List ℕ
ms_column places ticks minislots = right places (ms_text places (microseconds ticks minislots))

-- it, where there is one
abbrev pub ms_or_none : ℕ → ℕ → Option ℕ → List ℕ
ms_or_none places ticks None = right places (codes "-")
ms_or_none places ticks (Some minislots) = ms_column places ticks minislots

-- how many in ten thousand of a whole a part of it is, rounded to the nearest
abbrev pub in_ten_thousand : ℕ → ℕ → ℕ
in_ten_thousand part whole = (2 * (10000 * part) + whole) / (2 * whole)

-- so many hundredths: a whole number, a point and two digits
unfoldable pub hundredths_text : ℕ → List ℕ
hundredths_text n = decimal (n / 100) ++ 46 ∷ (48 + n / 10 % 10) ∷ (48 + n % 10) ∷ []

-- how many in a hundred of a whole a part of it is, where there is one
unfoldable pub percent_column : ℕ → ℕ → ℕ → List ℕ
percent_column places part whole =
    if whole == 0 then right places (codes "-") else right places (hundredths_text (in_ten_thousand part whole))

-- the bits a second of so many bytes over so many minislots of so many ticks, of which a second has 160000, rounded
-- down: none over no time
abbrev pub bits_a_second : ℕ → ℕ → ℕ → Option ℕ
bits_a_second bytes minislots ticks =
    if minislots * ticks == 0 then None else Some (bytes * 8 * 160000 / (minislots * ticks))
