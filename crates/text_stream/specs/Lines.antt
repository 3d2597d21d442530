-- The lines of bytes.
use Rattle.std.specs.Prelude.{◌≡◌, ◌≢◌, ℕ, ◌==◌, if◌then◌else◌, List, [], ◌∷◌, ◌++◌, Option, None, Some}
use Rattle.std.specs.List.{AllByRecursion}
use Rattle.text_stream.specs.declared.TheConstants.{NEWLINE}

-- no newline is among the bytes
abbrev pub IsWithinLine : List ℕ → Type 0
IsWithinLine bytes = AllByRecursion (λ b. b ≢ NEWLINE) bytes

-- a byte in front of the first line
abbrev pub with_byte : ℕ → List (List ℕ) → List (List ℕ)
with_byte b [] = (b ∷ []) ∷ []
with_byte b (line ∷ lines) = (b ∷ line) ∷ lines

-- the lines of bytes, in order: a line is the bytes up to a newline, which is in none, and what stands behind the last
-- newline is one too, unless that is nothing
abbrev pub lines_of : List ℕ → List (List ℕ)
lines_of [] = []
lines_of (b ∷ bytes) = if b == NEWLINE then [] ∷ lines_of bytes else with_byte b (lines_of bytes)

-- These lines are the first of what was not told yet, and this is left of it, where that is known
abbrev pub TakesLines : Option (List ℕ) → List (List ℕ) → Option (List ℕ) → Type 0
TakesLines None lines left = Unit {0}
TakesLines (Some text) lines None = ⊥
TakesLines (Some text) lines (Some rest) = lines_of text ≡ lines ++ lines_of rest
