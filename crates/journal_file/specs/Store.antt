-- What the file of a journal has, and what is done to it.
use Rattle.std.specs.Prelude.{◌≡◌, ℕ, ◌+◌, ◌<◌, List, ◌++◌, length, take, drop, Option, None, Some, option_map}
use Rattle.std.specs.Io.KnownBytes.{Consumes, IsAtEnd}

-- the bytes from a place on, where they are known
abbrev pub rest_at : ℕ → Option (List ℕ) → Option (List ℕ)
rest_at at known = option_map (λ text. drop at text) known

-- there are so many bytes
abbrev pub HasLength : Option (List ℕ) → ℕ → Type 0
HasLength None n = Unit {0}
HasLength (Some text) n = n ≡ length text

-- the first n bytes of the buffer are those at the place, and there are none only at the end or where there is no room
abbrev pub GivesFrom : Option (List ℕ) → ℕ → ℕ → List ℕ → Type 0
GivesFrom known at n buf = Consumes (rest_at at known) (rest_at (at + n) known) (take n buf)
    × (n ≡ 0 → 0 < length buf → IsAtEnd (rest_at (at + n) known))

-- the first so many bytes, where they are known
abbrev pub cut_known : Option (List ℕ) → ℕ → Option (List ℕ)
cut_known known len = option_map (λ text. take len text) known

-- these are all of them
abbrev pub HasBytes : Option (List ℕ) → List ℕ → Type 0
HasBytes None bytes = Unit {0}
HasBytes (Some text) bytes = bytes ≡ text

-- they are the first ones of a text, and these are the others of it
abbrev pub Lacks : Option (List ℕ) → List ℕ → List ℕ → Type 0
Lacks None text others = Unit {0}
Lacks (Some bytes) text others = text ≡ bytes ++ others
