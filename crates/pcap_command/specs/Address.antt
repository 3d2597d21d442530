-- The address of a sender as a text: six bytes in hexadecimal, with a colon between two.
use Rattle.std.specs.Prelude.{ℕ, Bool, ◌&&◌, ◌==◌, if◌then◌else◌, List, [], ◌∷◌, length, slice_index}
use Rattle.std.specs.Prelude.{Option, Some, None, Result, Ok, Err}
use Rattle.hex.specs.Hex.{decode_sized}
use Rattle.hex.specs.declared.error.FromHexError.{FromHexError}

-- a colon stands at this place
abbrev pub is_colon : List ℕ → ℕ → Bool
is_colon text at = slice_index text at == 58

-- there are 17 characters, and a colon behind each two but the last
abbrev pub has_colons : List ℕ → Bool
has_colons text =
    length text == 17
    && (is_colon text 2 && (is_colon text 5 && (is_colon text 8 && (is_colon text 11 && is_colon text 14))))

-- the digits
abbrev pub digits_in : List ℕ → List ℕ
digits_in text =
    slice_index text 0 ∷ slice_index text 1 ∷ slice_index text 3 ∷ slice_index text 4 ∷ slice_index text 6
    ∷ slice_index text 7 ∷ slice_index text 9 ∷ slice_index text 10 ∷ slice_index text 12 ∷ slice_index text 13
    ∷ slice_index text 15 ∷ slice_index text 16 ∷ []

-- what a result has, where it has something
abbrev pub value_of : Result (List ℕ) FromHexError → Option (List ℕ)
value_of (Ok bytes) = Some bytes
value_of (Err fault) = None

-- the address that a text spells
abbrev pub address_in : List ℕ → Option (List ℕ)
address_in text = if has_colons text then value_of (decode_sized (digits_in text) 6) else None
