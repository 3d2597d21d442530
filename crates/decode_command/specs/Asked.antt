-- What of a line of an input is decoded.
use Rattle.std.specs.Prelude.{ℕ, ◌-◌, Bool, true, ◌&&◌, ◌||◌, ◌==◌, nat_eq, if◌then◌else◌, List, [], ◌∷◌}
use Rattle.std.specs.Prelude.{length, take, drop, codes, Option, None, Some}
use Rattle.std.specs.List.{starts_with, prefix_len, suffix_len}
use Rattle.std.specs.Char.{is_ascii_whitespace}

-- a text without the white space behind it
abbrev pub without_end : List ℕ → List ℕ
without_end text = take (length text - suffix_len is_ascii_whitespace text) text

-- a text without the white space before and behind it
abbrev pub trimmed : List ℕ → List ℕ
trimmed text = without_end (drop (prefix_len is_ascii_whitespace text) text)

-- whether words end before these bytes
abbrev pub ends_word : List ℕ → Bool
ends_word [] = true
ends_word (b ∷ rest) = b == 32

-- whether a text is these words, or begins with them and a space
abbrev pub begins_with : List ℕ → List ℕ → Bool
begins_with text words = starts_with nat_eq text words && ends_word (drop (length words) text)

-- whether a text is a line that `run` or `live` prints for anything but a MAP
unfoldable pub is_other_answer : List ℕ → Bool
is_other_answer text =
    begins_with text (codes "admitted") || begins_with text (codes "changed") || begins_with text (codes "removed")
    || begins_with text (codes "taken") || begins_with text (codes "noted") || begins_with text (codes "reserved")
    || begins_with text (codes "skipped") || begins_with text (codes "flow") || begins_with text (codes "refused")
    || begins_with text (codes "history full") || begins_with text (codes "out of memory")
    || begins_with text (codes "bad line")

-- whether nothing of a text is decoded: it is empty, or another answer than a MAP
abbrev pub is_passed : List ℕ → Bool
is_passed [] = true
is_passed (b ∷ text) = is_other_answer (b ∷ text)

-- what stands behind the word `map` of a text, or else the text
abbrev pub behind_map : List ℕ → List ℕ
behind_map text = if begins_with text (codes "map") then trimmed (drop 3 text) else text

-- what is decoded of a line, without the white space around it: what stands behind the word `map`, or else all of it,
-- but nothing of an empty line or another answer
abbrev pub asked_of : List ℕ → Option (List ℕ)
asked_of line = if is_passed (trimmed line) then None else Some (behind_map (trimmed line))
