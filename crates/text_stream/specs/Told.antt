-- What a reader of lines tells, and what it has at hand.
use Rattle.std.specs.Prelude.{◌≡◌, ℕ, ◌-◌, ◌^◌, ◌+◌, ◌<◌, ◌≤◌, Bool, true, false, List, [], ◌∷◌, ◌++◌}
use Rattle.std.specs.Prelude.{length, min, Option}
use Rattle.std.specs.Io.KnownBytes.{Consumes, IsAtEnd, prepend_known}
use Rattle.text_stream.specs.declared.fault.TextFault.{TextFault}
use Rattle.text_stream.specs.declared.fault.TextFault.TheVariants.{Input, TooLong, NotJson, Shape, Config, Memory}
use Rattle.text_stream.specs.declared.fault.TextFault.TheVariants.{Output}
use Rattle.text_stream.specs.declared.TheConstants.{NEWLINE, MAX_LINE}
use Rattle.text_stream.specs.declared.Told.{Told}
use Rattle.text_stream.specs.declared.Told.TheVariants.{Line, Long}
use Rattle.text_stream.specs.declared.Whole.{Whole}
use Rattle.text_stream.specs.declared.Whole.TheVariants as whole
use Rattle.text_stream.specs.Lines.{IsWithinLine, TakesLines}

-- the bytes that were read and are in no line that was told, and the line that was told last, where it is not long
pub record AtHand : Type 0 where
  pub bytes : List ℕ
  pub line : List ℕ

-- the bytes that are in no line that was told: those at hand, and behind them those that the reader will give
abbrev pub untold : AtHand → Option (List ℕ) → Option (List ℕ)
untold hand remaining = prepend_known hand.bytes remaining

-- what is told of a line, and what is shown of it
abbrev pub IsTold : List ℕ → Told → List ℕ → Type 0
IsTold line Line shown = (shown ≡ line) × (length line ≤ MAX_LINE)
IsTold line Long shown = MAX_LINE < length line

-- The first line at hand is told, and its newline passed
pub record TellsAtHand (old new : AtHand) (told : Told) : Type 0 where
  pub line : List ℕ
  pub within : IsWithinLine line
  pub first : old.bytes ≡ line ++ NEWLINE ∷ new.bytes
  pub is : IsTold line told new.line

-- The next line of what was not told is told
pub record TellsNext (before after : Option (List ℕ)) (new : AtHand) (told : Told) : Type 0 where
  pub line : List ℕ
  pub within : IsWithinLine line
  pub taken : TakesLines before (line ∷ []) after
  pub is : IsTold line told new.line

-- The next line of what was not told is told, and a newline ends it
pub record TellsWhole (before after : Option (List ℕ)) (new : AtHand) (told : Told) : Type 0 where
  pub line : List ℕ
  pub within : IsWithinLine line
  pub taken : Consumes before after (line ++ NEWLINE ∷ [])
  pub is : IsTold line told new.line

-- No newline was left, but so many bytes; the number stops at the greatest of 64 bits
pub record IsTorn (before after : Option (List ℕ)) (count : ℕ) : Type 0 where
  pub bytes : List ℕ
  pub within : IsWithinLine bytes
  pub taken : Consumes before after bytes
  pub ended : IsAtEnd after
  pub count_is : count ≡ min (length bytes) (2 ^ 64 - 1)

-- what comes of a line that a newline ends
abbrev pub whole_of : Told → Whole
whole_of Line = whole.Line
whole_of Long = whole.Long

-- what comes next: a line that a newline ends, or the end
abbrev pub IsWhole : Option (List ℕ) → Option (List ℕ) → AtHand → Whole → Type 0
IsWhole before after new whole.Line = TellsWhole before after new Line
IsWhole before after new whole.Long = TellsWhole before after new Long
IsWhole before after new (whole.Torn count) = IsTorn before after count

-- Nothing was left to tell
abbrev pub HasEnded : Option (List ℕ) → Option (List ℕ) → Type 0
HasEnded before after = IsAtEnd before × IsAtEnd after × Consumes before after []

-- These are the bytes that were in no line that was told and were read, and no newline is among them
pub record HasNoEnd (before left : Option (List ℕ)) : Type 0 where
  pub bytes : List ℕ
  pub consumed : Consumes before left bytes
  pub within : IsWithinLine bytes

-- too many bytes without a newline: as many as a number of 64 bits can count, where all are read, and else more than
-- those of a line, and one read
abbrev pub IsTooMuch : Bool → List ℕ → Type 0
IsTooMuch true bytes = 2 ^ 64 - 1 ≤ length bytes
IsTooMuch false bytes = (MAX_LINE < length bytes) × (length bytes ≤ MAX_LINE + MAX_LINE)

-- why no line is told: a read failed, or too many bytes have no newline
abbrev pub StopsReading : Bool → Option (List ℕ) → Option (List ℕ) → TextFault → Type 0
StopsReading reads_on before left Input = HasNoEnd before left
StopsReading reads_on before left TooLong = (none : HasNoEnd before left) × IsTooMuch reads_on none.bytes
StopsReading reads_on before left NotJson = ⊥
StopsReading reads_on before left (Shape n) = ⊥
StopsReading reads_on before left (Config field) = ⊥
StopsReading reads_on before left Memory = ⊥
StopsReading reads_on before left Output = ⊥

-- why no line is told, where all of it is read
abbrev pub StopsLine : Option (List ℕ) → Option (List ℕ) → TextFault → Type 0
StopsLine before left fault = StopsReading true before left fault
