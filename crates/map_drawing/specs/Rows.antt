-- A frame in rows of characters, one for each minislot.
use Rattle.std.specs.Prelude.{◌≡◌, ℕ, zero, suc, ◌+◌, ◌-◌, ◌*◌, ◌/◌, ◌%◌, ◌<◌, ◌≤◌, ◌↔◌, min, max, nat_le, nat_lt}
use Rattle.std.specs.Prelude.{if◌then◌else◌, List, ◌++◌, map, count_by, codes, flat_map}
use Rattle.std.specs.List.{range_with_len}
use Rattle.map_codec.specs.declared.element.Element.{Element}
use Rattle.map_codec.specs.Element.{element_at, nulls, Ascends}
use Rattle.map_drawing.specs.Allocation.{front_length, front_of, frame_slots}
use Rattle.map_drawing.specs.Text.{column}

-- the letter of the allocation with this number: A to Z, a to z, and from A again
unfoldable pub letter_of : ℕ → ℕ
letter_of i = let r = i % 52 in if nat_lt r 26 then 65 + r else 71 + r

-- the character of a minislot at or before which so many allocations begin: the letter of the last of them
unfoldable pub character_after : ℕ → ℕ
character_after zero = 45
character_after (suc i) = letter_of i

-- how many of these elements begin at or before a minislot
abbrev pub begun : List Element → ℕ → ℕ
begun front slot = count_by (λ e. nat_le e.offset slot) front

-- the character that stands for a minislot
abbrev pub character_at : List Element → ℕ → ℕ
character_at front slot = character_after (begun front slot)

-- the characters of so many minislots, from one on
abbrev pub characters : List Element → ℕ → ℕ → List ℕ
characters front from count = map (character_at front) (range_with_len from count)

-- how many minislots a row has: as many tens as fit behind the number of its first one, and ten at least
abbrev pub row_slots : ℕ → ℕ
row_slots columns = max 10 ((columns - 6) / 10 * 10)

-- a row: the number of its first minislot, and the character of each
unfoldable pub row_text : List Element → ℕ → ℕ → ℕ → List ℕ
row_text front slots width row =
    column 5 (row * width) ++ (characters front (row * width) (min width (slots - row * width)) ++ codes "\n")

-- the rows of so many minislots
unfoldable pub rows_text : List Element → ℕ → ℕ → List ℕ
rows_text front slots width = flat_map (row_text front slots width) (range_with_len 0 ((slots + (width - 1)) / width))

-- the allocation with this number has this minislot
pub record HasSlot (es : List Element) (i slot : ℕ) : Type 0 where
  pub begins : (element_at es i).offset ≤ slot
  pub ends : slot < (element_at es (i + 1)).offset

-- in a MAP whose offsets do not descend up to its one Null, a minislot of the frame has the character of the allocation
-- that has it, and of no other: i allocations begin before it, and none of the others has begun
abbrev pub ShowsEachOnce : Type 0
ShowsEachOnce =
    (es : List Element) → nulls es ≡ 1 → Ascends es
    → (i slot : ℕ) → i < front_length es → slot < frame_slots es
    → (HasSlot es i slot ↔ (begun (front_of es) slot ≡ i + 1))
