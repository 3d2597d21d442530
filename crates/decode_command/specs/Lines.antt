-- The lines of an input: what is shown and said of them.
use Rattle.std.specs.Prelude.{◌≡◌, ◌⊎◌, ℕ, ◌+◌, ◌-◌, ◌^◌, ◌≤◌, Bool, true, false, List, [], ◌∷◌, ◌++◌, length}
use Rattle.std.specs.Prelude.{Option, None, Some}
use Rattle.std.specs.List.{flat_map}
use Rattle.std.specs.Io.KnownBytes.{Appends, IsAtEnd}
use Rattle.text_stream.specs.declared.fault.TextFault.TheVariants.{Input, TooLong, NotJson, Shape, Config, Memory}
use Rattle.text_stream.specs.declared.fault.TextFault.TheVariants.{Output}
use Rattle.text_stream.specs.declared.run_fault.RunFault.{RunFault}
use Rattle.text_stream.specs.declared.run_fault.RunFault.TheVariants.{Text, Threads}
use Rattle.text_stream.specs.Lines.{TakesLines}
use Rattle.text_stream.specs.Told.{HasNoEnd, IsTooMuch}
use Rattle.decode_command.specs.declared.form.Form.{Form}
use Rattle.decode_command.specs.Line.{Becomes, behind_gap, said_line}

-- what becomes of each line
abbrev pub BecomeEach : Form → Option ℕ → List (List ℕ) → List (Option (Bool × List ℕ)) → Type 0
BecomeEach form columns [] [] = Unit {0}
BecomeEach form columns [] (outcome ∷ outcomes) = ⊥
BecomeEach form columns (line ∷ lines) [] = ⊥
BecomeEach form columns (line ∷ lines) (outcome ∷ outcomes) =
    Becomes form columns line outcome × BecomeEach form columns lines outcomes

-- what is shown, in the order of the lines
abbrev pub shown_of : List (Option (Bool × List ℕ)) → List (List ℕ)
shown_of [] = []
shown_of (None ∷ outcomes) = shown_of outcomes
shown_of (Some (true, told) ∷ outcomes) = told ∷ shown_of outcomes
shown_of (Some (false, told) ∷ outcomes) = shown_of outcomes

-- texts, with an empty line between two
abbrev pub separated : List (List ℕ) → List ℕ
separated [] = []
separated (text ∷ texts) = text ++ flat_map behind_gap texts

-- what is said of lines, the first of which has this number: each wrong one is named by its own
abbrev pub said_from : ℕ → List (Option (Bool × List ℕ)) → List ℕ
said_from number [] = []
said_from number (None ∷ outcomes) = said_from (number + 1) outcomes
said_from number (Some (true, told) ∷ outcomes) = said_from (number + 1) outcomes
said_from number (Some (false, told) ∷ outcomes) = said_line number told ++ said_from (number + 1) outcomes

-- whether no line is wrong
abbrev pub are_well : List (Option (Bool × List ℕ)) → Bool
are_well [] = true
are_well (None ∷ outcomes) = are_well outcomes
are_well (Some (true, told) ∷ outcomes) = are_well outcomes
are_well (Some (false, told) ∷ outcomes) = false

-- Where the decoding of lines begins: with what is to be read, what was written and what was said
pub record Start : Type 0 where
  pub form : Form
  pub columns : Option ℕ
  pub unread : Option (List ℕ)
  pub written : Option (List ℕ)
  pub said : Option (List ℕ)

-- The first lines of an input, behind which this is left, were decoded: what is shown of them was written, and nothing
-- else, and what is said of them was said, unless saying it has failed. No line is wrong, or some are
pub record DecodesLines (s : Start) (left written said : Option (List ℕ)) (has_failed : Bool) (is_well : Bool) : Type 0
  where
    pub lines : List (List ℕ)
    pub outcomes : List (Option (Bool × List ℕ))
    pub become : BecomeEach s.form s.columns lines outcomes
    pub read : TakesLines s.unread lines left
    pub shown : Appends s.written written (separated (shown_of outcomes))
    pub says : has_failed ≡ false → Appends s.said said (said_from 1 outcomes)
    pub well : is_well ≡ are_well outcomes

-- All lines were decoded
pub record DecodedLines (s : Start) (left written said : Option (List ℕ)) (has_failed : Bool) (is_well : Bool) : Type 0
  where
    pub decoded : DecodesLines s left written said has_failed is_well
    pub ended : IsAtEnd left

-- Some of the first lines were decoded
pub record DecodesFront (s : Start) (written said : Option (List ℕ)) (has_failed : Bool) : Type 0 where
  pub left : Option (List ℕ)
  pub is_well : Bool
  pub decoded : DecodesLines s left written said has_failed is_well

-- All whole lines that came were decoded, and no newline came behind them
pub record BreaksOff (s : Start) (left written said : Option (List ℕ)) (has_failed : Bool) : Type 0 where
  pub front : DecodesFront s written said has_failed
  pub none : HasNoEnd front.left left

-- Too much came: a line, or so many lines, that a number of 64 bits cannot count it
abbrev pub ComesTooMuch : Start → Option (List ℕ) → Option (List ℕ) → Option (List ℕ) → Bool → Type 0
ComesTooMuch s left written said has_failed =
    ((off : BreaksOff s left written said has_failed) × IsTooMuch true off.none.bytes)
    ⊎ ((front : DecodesFront s written said has_failed) × (2 ^ 64 - 1 ≤ length front.decoded.lines))

-- why lines are not decoded to their end; a failed write tells nothing more
abbrev pub StopsDecoding : Start → Option (List ℕ) → Option (List ℕ) → Option (List ℕ) → Bool → RunFault → Type 0
StopsDecoding s left written said has_failed (Text Input) = BreaksOff s left written said has_failed
StopsDecoding s left written said has_failed (Text TooLong) = ComesTooMuch s left written said has_failed
StopsDecoding s left written said has_failed (Text NotJson) = ⊥
StopsDecoding s left written said has_failed (Text (Shape n)) = ⊥
StopsDecoding s left written said has_failed (Text (Config field)) = ⊥
StopsDecoding s left written said has_failed (Text Memory) = DecodesFront s written said has_failed
StopsDecoding s left written said has_failed (Text Output) = Unit {0}
StopsDecoding s left written said has_failed Threads = ⊥

-- where the decoding of lines begins
abbrev pub start_at : Form → Option ℕ → Option (List ℕ) → Option (List ℕ) → Option (List ℕ) → Start
start_at form columns unread written said =
    record { form = form; columns = columns; unread = unread; written = written; said = said }

-- whether nothing was shown, behind a line of which this was found
abbrev pub stays_first : Bool → Option Bool → Bool
stays_first is_first None = is_first
stays_first is_first (Some true) = false
stays_first is_first (Some false) = is_first

-- whether no line was wrong, behind a line of which this was found
abbrev pub stays_well : Bool → Option Bool → Bool
stays_well is_well None = is_well
stays_well is_well (Some true) = is_well
stays_well is_well (Some false) = false
