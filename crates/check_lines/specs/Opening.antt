-- The opening of a conversation, and the number of its line.
use Rattle.std.specs.Prelude.{◌≡◌, ◌⊎◌, ℕ, ◌+◌, ◌-◌, ◌^◌, ◌≤◌, List, length, Option, None, Some, Ok, Err}
use Rattle.minislots.specs.declared.config.Config.{Config as Configuration}
use Rattle.text_stream.specs.declared.Told.{Told}
use Rattle.text_stream.specs.Lines.{TakesLines}
use Rattle.text_stream.specs.Told.{AtHand, HasNoEnd}
use Rattle.text_stream.specs.declared.fault.TextFault.{TextFault}
use Rattle.text_stream.specs.declared.fault.TextFault.TheVariants.{Input, TooLong, NotJson, Shape, Config, Memory}
use Rattle.text_stream.specs.declared.fault.TextFault.TheVariants.{Output}
use Rattle.live_command.specs.Talk.{BeginsWith}
use Rattle.live_command.specs.Opening.{opening_in, Opens, HasNoOpening, TellsSpoken, PassesAll}
use Rattle.check_lines.specs.declared.opening.Opening.{Opening}
use Rattle.check_lines.specs.declared.opening.Opening.TheVariants.{Lawful, Faulty}

-- Behind lines came as many bytes as a number of 64 bits can count, and no newline
pub record HasEndlessLine (unread left : Option (List ℕ)) : Type 0 where
  pub lines : List (List ℕ)
  pub between : Option (List ℕ)
  pub read : TakesLines unread lines between
  pub none : HasNoEnd between left
  pub long : 2 ^ 64 - 1 ≤ length none.bytes

-- So many lines came, behind so many others, that a number of 64 bits cannot count one more
pub record HasTooManyLines (passed : ℕ) (unread : Option (List ℕ)) : Type 0 where
  pub lines : List (List ℕ)
  pub read : BeginsWith unread lines
  pub many : 2 ^ 64 - 1 ≤ passed + length lines

-- why lines behind so many others are not read to their end: where memory runs out nothing more is told, and
-- a failed read is told by the reader
abbrev pub StopsLines : ℕ → Option (List ℕ) → Option (List ℕ) → TextFault → Type 0
StopsLines passed unread left Input = Unit {0}
StopsLines passed unread left TooLong = HasEndlessLine unread left ⊎ HasTooManyLines passed unread
StopsLines passed unread left NotJson = ⊥
StopsLines passed unread left (Shape n) = ⊥
StopsLines passed unread left (Config field) = ⊥
StopsLines passed unread left Memory = Unit {0}
StopsLines passed unread left Output = ⊥

-- The next line that is not blank was told, and this is its number, counted from 1
pub record TellsNumbered (unread left : Option (List ℕ)) (hand : AtHand) (number : ℕ) (told : Told) : Type 0 where
  pub tells : TellsSpoken unread left hand told
  pub number_is : number ≡ length tells.blanks + 1

-- or all lines are blank
abbrev pub FindsNumbered : Option (List ℕ) → Option (List ℕ) → AtHand → Option (ℕ × Told) → Type 0
FindsNumbered unread left hand None = PassesAll unread left
FindsNumbered unread left hand (Some found) = TellsNumbered unread left hand found.0 found.1

-- The opening was read and is lawful, in the line of this number
pub record OpensAt (unread left : Option (List ℕ)) (number : ℕ) : Type 0 where
  pub config : Configuration
  pub opens : Opens unread left (Ok config)
  pub number_is : number ≡ length opens.blanks + 1

-- The opening was read and has this fault, in the line of this number
pub record FailsAt (unread : Option (List ℕ)) (fault : TextFault) (number : ℕ) : Type 0 where
  pub left : Option (List ℕ)
  pub opens : Opens unread left (Err fault)
  pub number_is : number ≡ length opens.blanks + 1

-- the opening has this fault, in this line; or there is no line that is not blank, which is no JSON text
abbrev pub HasFaultyOpening : Option (List ℕ) → TextFault → Option ℕ → Type 0
HasFaultyOpening unread fault None = (fault ≡ NotJson) × HasNoOpening unread
HasFaultyOpening unread fault (Some number) = FailsAt unread fault number

-- what was found where a conversation begins
abbrev pub FindsOpening : Option (List ℕ) → Option (List ℕ) → Opening → Type 0
FindsOpening unread left (Lawful number) = OpensAt unread left number
FindsOpening unread left (Faulty fault place words) = HasFaultyOpening unread fault place

-- what the text of an opening in the line of this number is
abbrev pub IsOpening : ℕ → List ℕ → Opening → Type 0
IsOpening number text (Lawful n) = (n ≡ number) × ((config : Configuration) × (opening_in text ≡ Ok config))
IsOpening number text (Faulty fault place words) = (place ≡ Some number) × (opening_in text ≡ Err fault)
