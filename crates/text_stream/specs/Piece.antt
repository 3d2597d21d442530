-- What is kept of a line that is read piece by piece.
use Rattle.std.specs.Prelude.{◌≡◌, ◌≢◌, ℕ, ◌-◌, ◌^◌, ◌<◌, ◌≤◌, min, Bool, true, false, List, [], ◌∷◌, ◌++◌, length}
use Rattle.std.specs.Prelude.{take, drop, Option}
use Rattle.std.specs.Prelude.{None, Some}
use Rattle.std.specs.Io.KnownBytes.{Consumes, IsAtEnd, prepend_known}
use Rattle.text_stream.specs.declared.TheConstants.{MAX_LINE, NEWLINE}
use Rattle.text_stream.specs.declared.piece.Cut.{Cut}
use Rattle.text_stream.specs.Lines.{IsWithinLine}
use Rattle.text_stream.specs.declared.Told.{Told}
use Rattle.text_stream.specs.declared.Told.TheVariants.{Line, Long}
use Rattle.text_stream.specs.declared.Whole.{Whole}
use Rattle.text_stream.specs.declared.Whole.TheVariants.{Torn}
use Rattle.text_stream.specs.Told.{AtHand, IsTold, HasEnded, whole_of}

-- the front of a line: it is kept, or it is long already, and nothing of it is
abbrev pub IsHeld : List ℕ → Bool → List ℕ → Type 0
IsHeld front false kept = (kept ≡ front) × (length front ≤ MAX_LINE)
IsHeld front true kept = (kept ≡ []) × (MAX_LINE < length front)

-- what is told of a line that is long or not
abbrev pub told_of : Bool → Told
told_of false = Line
told_of true = Long

-- Among the bytes kept the line ends at the cut, and the rest begins behind it
pub record IsCut (line rest kept : List ℕ) (c : Cut) : Type 0 where
  pub is : IsTold line c.told (take c.end kept)
  pub rest_is : drop c.next kept ≡ rest
  pub ordered : c.end ≤ c.next
  pub inside : c.next ≤ length kept
  pub few : length rest ≤ MAX_LINE

-- a front of a line at the end of an input is the last line, unless it is nothing
abbrev pub IsLast : List ℕ → List ℕ → Option Cut → Type 0
IsLast front kept None = (front ≡ []) × (kept ≡ [])
IsLast front kept (Some c) = (front ≢ []) × IsCut front [] kept c

-- A line was the rest of the input, and has so many bytes
pub record IsRest (before after : Option (List ℕ)) (line : List ℕ) (count : ℕ) : Type 0 where
  pub taken : Consumes before after line
  pub ended : IsAtEnd after
  pub some : line ≢ []
  pub count_is : count ≡ min (length line) (2 ^ 64 - 1)

-- a newline ends the line, or the end of the input, and then it has so many bytes
abbrev pub EndsAt : Option (List ℕ) → Option (List ℕ) → List ℕ → Option ℕ → Type 0
EndsAt before after line None = Consumes before after (line ++ NEWLINE ∷ [])
EndsAt before after line (Some count) = IsRest before after line count

-- The next line of what was not told is told, with how it ends
pub record TellsCut (before after : Option (List ℕ)) (new : AtHand) (c : Cut) : Type 0 where
  pub line : List ℕ
  pub within : IsWithinLine line
  pub ends : EndsAt before after line c.torn
  pub is : IsTold line c.told new.line

-- what comes of a line that was told, and that no newline ended where a count of its bytes is given
abbrev pub whole_from : Option ℕ → Told → Whole
whole_from None told = whole_of told
whole_from (Some count) told = Torn count

-- what comes of a line by its cut
abbrev pub whole_cut : Cut → Whole
whole_cut c = whole_from c.torn c.told

-- The next line was read, and ends at the cut
pub record FindsLine (before left : Option (List ℕ)) (kept : List ℕ) (c : Cut) : Type 0 where
  pub line : List ℕ
  pub within : IsWithinLine line
  pub rest : List ℕ
  pub ends : EndsAt before (prepend_known rest left) line c.torn
  pub is : IsCut line rest kept c

-- the next line was read, or the input has ended
abbrev pub Finds : Option (List ℕ) → Option (List ℕ) → List ℕ → Option Cut → Type 0
Finds before left kept None = HasEnded before (prepend_known kept left) × (kept ≡ [])
Finds before left kept (Some c) = FindsLine before left kept c
