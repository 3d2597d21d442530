-- A text, or the lines of an input, as JSON: what is written of them.
use Rattle.std.specs.Prelude.{◌≡◌, ◌⊎◌, ℕ, ◌+◌, ◌-◌, ◌^◌, ◌<◌, ◌≤◌, Bool, true, ◌&&◌, List, [], ◌∷◌, ◌++◌, length}
use Rattle.std.specs.Prelude.{Option, None, Some}
use Rattle.std.specs.Io.KnownBytes.{Appends, IsAtEnd}
use Rattle.text_stream.specs.declared.TheConstants.{MAX_LINE}
use Rattle.text_stream.specs.declared.fault.TextFault.TheVariants.{Input, TooLong, NotJson, Shape, Config, Memory}
use Rattle.text_stream.specs.declared.fault.TextFault.TheVariants.{Output}
use Rattle.text_stream.specs.declared.run_fault.RunFault.{RunFault}
use Rattle.text_stream.specs.declared.run_fault.RunFault.TheVariants.{Text, Threads}
use Rattle.text_stream.specs.Lines.{TakesLines}
use Rattle.text_stream.specs.Told.{HasNoEnd, IsTooMuch}
use Rattle.decode_command.specs.declared.form.JsonForm.{JsonForm}
use Rattle.decode_command.specs.declared.decoded.Decoded.{Decoded}
use Rattle.decode_command.specs.declared.decoded.Decoded.TheVariants.{Long}
use Rattle.decode_command.specs.Asked.{asked_of}
use Rattle.decode_command.specs.Decoded.{is_well, IsTextAs}
use Rattle.decode_command.specs.Json.{json_of}

-- What was written is what a text is, and whether that is a payload, or a frame
pub record PutsJson (form : JsonForm) (text : List ℕ) (is : Bool) (before after : Option (List ℕ)) : Type 0 where
  pub decoded : Decoded
  pub is_so : IsTextAs form text decoded
  pub well : is ≡ is_well decoded
  pub written : Appends before after (json_of None decoded)

-- A line that is not long asks for a text, which is this
pub record AsksFor (form : JsonForm) (line : List ℕ) (d : Decoded) : Type 0 where
  pub short : length line ≤ MAX_LINE
  pub text : List ℕ
  pub asked : asked_of line ≡ Some text
  pub is_so : IsTextAs form text d

-- what becomes of a line: it is passed over, it asks for a text, or it is too long
abbrev pub BecomesJson : JsonForm → List ℕ → Option Decoded → Type 0
BecomesJson form line None = (length line ≤ MAX_LINE) × (asked_of line ≡ None)
BecomesJson form line (Some d) = AsksFor form line d ⊎ ((MAX_LINE < length line) × (d ≡ Long))

-- what becomes of each line
abbrev pub BecomeEachJson : JsonForm → List (List ℕ) → List (Option Decoded) → Type 0
BecomeEachJson form [] [] = Unit {0}
BecomeEachJson form [] (outcome ∷ outcomes) = ⊥
BecomeEachJson form (line ∷ lines) [] = ⊥
BecomeEachJson form (line ∷ lines) (outcome ∷ outcomes) =
    BecomesJson form line outcome × BecomeEachJson form lines outcomes

-- what is written of the line of this number
abbrev pub json_line : ℕ → Option Decoded → List ℕ
json_line number None = []
json_line number (Some d) = json_of (Some number) d

-- what is written of lines, the first of which has this number
abbrev pub json_lines : ℕ → List (Option Decoded) → List ℕ
json_lines number [] = []
json_lines number (outcome ∷ outcomes) = json_line number outcome ++ json_lines (number + 1) outcomes

-- whether a line is not wrong
abbrev pub is_line_well : Option Decoded → Bool
is_line_well None = true
is_line_well (Some d) = is_well d

-- whether no line is wrong
abbrev pub are_lines_well : List (Option Decoded) → Bool
are_lines_well [] = true
are_lines_well (outcome ∷ outcomes) = is_line_well outcome && are_lines_well outcomes

-- This is written of the line of this number, and whether it is not wrong
pub record PutsLine (form : JsonForm) (number : ℕ) (line : List ℕ) (is : Bool) (written : List ℕ) : Type 0 where
  pub outcome : Option Decoded
  pub becomes : BecomesJson form line outcome
  pub text : written ≡ json_line number outcome
  pub well : is ≡ is_line_well outcome

-- The first lines of an input, behind which this is left, were decoded: the object of each that is not passed over was
-- written, and nothing else. No line is wrong, or some are
pub record DecodesJson (form : JsonForm) (unread left before after : Option (List ℕ)) (is : Bool) : Type 0 where
  pub lines : List (List ℕ)
  pub outcomes : List (Option Decoded)
  pub become : BecomeEachJson form lines outcomes
  pub read : TakesLines unread lines left
  pub written : Appends before after (json_lines 1 outcomes)
  pub well : is ≡ are_lines_well outcomes

-- All lines were decoded
pub record DecodedJson (form : JsonForm) (unread left before after : Option (List ℕ)) (is : Bool) : Type 0 where
  pub decoded : DecodesJson form unread left before after is
  pub ended : IsAtEnd left

-- Some of the first lines were decoded
pub record DecodesJsonFront (form : JsonForm) (unread before after : Option (List ℕ)) : Type 0 where
  pub left : Option (List ℕ)
  pub is : Bool
  pub decoded : DecodesJson form unread left before after is

-- All whole lines that came were decoded, and no newline came behind them
pub record BreaksOffJson (form : JsonForm) (unread left before after : Option (List ℕ)) : Type 0 where
  pub front : DecodesJsonFront form unread before after
  pub none : HasNoEnd front.left left

-- Too much came: a line, or so many lines, that a number of 64 bits cannot count it
abbrev pub ComesTooMuchJson : JsonForm → Option (List ℕ) → Option (List ℕ) → Option (List ℕ) → Option (List ℕ) → Type 0
ComesTooMuchJson form unread left before after =
    ((off : BreaksOffJson form unread left before after) × IsTooMuch true off.none.bytes)
    ⊎ ((front : DecodesJsonFront form unread before after) × (2 ^ 64 - 1 ≤ length front.decoded.lines))

-- why lines are not decoded to their end; a failed write tells nothing more
abbrev pub StopsJson : JsonForm → Option (List ℕ) → Option (List ℕ) → Option (List ℕ) → Option (List ℕ) → RunFault
    → Type 0
StopsJson form unread left before after (Text Input) = BreaksOffJson form unread left before after
StopsJson form unread left before after (Text TooLong) = ComesTooMuchJson form unread left before after
StopsJson form unread left before after (Text NotJson) = ⊥
StopsJson form unread left before after (Text (Shape n)) = ⊥
StopsJson form unread left before after (Text (Config field)) = ⊥
StopsJson form unread left before after (Text Memory) = DecodesJsonFront form unread before after
StopsJson form unread left before after (Text Output) = Unit {0}
StopsJson form unread left before after Threads = ⊥
