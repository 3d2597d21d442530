-- The opening of a conversation.
use Rattle.std.specs.Prelude.{◌≡◌, ◌⊎◌, ℕ, ◌-◌, ◌^◌, ◌≤◌, Bool, true, nat_lt, if◌then◌else◌, List, [], ◌∷◌, ◌++◌}
use Rattle.std.specs.Prelude.{length, Option, None, Some, Result, Ok, Err}
use Rattle.std.specs.Io.KnownBytes.{IsAtEnd}
use Rattle.minislots.specs.declared.config.Config.{Config as Configuration}
use Rattle.minislots.specs.Config.{first_wrong}
use Rattle.text_stream.specs.declared.TheConstants.{MAX_LINE}
use Rattle.text_stream.specs.Lines.{TakesLines}
use Rattle.text_stream.specs.declared.Told.{Told}
use Rattle.text_stream.specs.Told.{AtHand, IsTold, HasNoEnd, IsTooMuch}
use Rattle.text_stream.specs.declared.fault.TextFault.{TextFault}
use Rattle.text_stream.specs.declared.fault.TextFault.TheVariants.{Input, TooLong, NotJson, Shape, Config, Memory}
use Rattle.text_stream.specs.declared.fault.TextFault.TheVariants.{Output}
use Rattle.text_stream.specs.Outcome.{◌>>=◌, unless_wrong}
use Rattle.live_command.specs.declared.said.Said.{Said}
use Rattle.live_command.specs.declared.said.Said.TheVariants as saying
use Rattle.live_command.specs.Said.{said_in}
use Rattle.live_command.specs.Spoken.{is_spoken, spoken}
use Rattle.live_command.specs.Talk.{AreLines, BeginsWith}

-- the configuration that is said
abbrev pub config_said : Said → Result Configuration TextFault
config_said (saying.Opening (Some config)) = Ok config
config_said (saying.Opening None) = Err (Shape 0)
config_said saying.Stats = Err (Shape 0)
config_said (saying.Call call) = Err (Shape 0)

-- the configuration that the text of an opening says, where it is lawful, or its first fault
unfoldable pub opening_in : List ℕ → Result Configuration TextFault
opening_in bytes = do
  said ← said_in bytes
  config ← config_said said
  unless_wrong (first_wrong config) config

-- the configuration of an opening, or its first fault
unfoldable pub opening_of_line : List ℕ → Result Configuration TextFault
opening_of_line line = if nat_lt MAX_LINE (length line) then Err TooLong else opening_in line

-- The opening is the first line that is not blank, and was read
pub record Opens (unread left : Option (List ℕ)) (outcome : Result Configuration TextFault) : Type 0 where
  pub blanks : List (List ℕ)
  pub line : List ℕ
  pub blank : spoken blanks ≡ []
  pub is : is_spoken line ≡ true
  pub taken : TakesLines unread (blanks ++ line ∷ []) left
  pub says : opening_of_line line ≡ outcome

-- There are lines that are blank, or none at all
pub record HasNoOpening (unread : Option (List ℕ)) : Type 0 where
  pub blanks : List (List ℕ)
  pub blank : spoken blanks ≡ []
  pub read : AreLines unread blanks

-- Blank lines came, and no newline behind them
pub record BreaksOffBefore (unread left : Option (List ℕ)) : Type 0 where
  pub blanks : List (List ℕ)
  pub blank : spoken blanks ≡ []
  pub between : Option (List ℕ)
  pub read : TakesLines unread blanks between
  pub none : HasNoEnd between left

-- So many blank lines came that a number of 64 bits cannot count them
pub record ComesTooMuchBefore (unread : Option (List ℕ)) : Type 0 where
  pub blanks : List (List ℕ)
  pub blank : spoken blanks ≡ []
  pub read : BeginsWith unread blanks
  pub many : 2 ^ 64 - 1 ≤ length blanks

-- the opening was read to its end, with this fault
abbrev pub OpensWith : Option (List ℕ) → TextFault → Type 0
OpensWith unread fault = (left : Option (List ℕ)) × Opens unread left (Err fault)

-- why no opening was read
abbrev pub StopsOpening : Option (List ℕ) → Option (List ℕ) → TextFault → Type 0
StopsOpening unread left Input = BreaksOffBefore unread left
StopsOpening unread left TooLong = OpensWith unread TooLong
    ⊎ (((off : BreaksOffBefore unread left) × (2 ^ 64 - 1 ≤ length off.none.bytes)) ⊎ ComesTooMuchBefore unread)
StopsOpening unread left NotJson = OpensWith unread NotJson ⊎ HasNoOpening unread
StopsOpening unread left (Shape n) = OpensWith unread (Shape n)
StopsOpening unread left (Config field) = OpensWith unread (Config field)
StopsOpening unread left Memory = Unit {0}
StopsOpening unread left Output = ⊥

-- The next line that is not blank was told
pub record TellsSpoken (unread left : Option (List ℕ)) (hand : AtHand) (told : Told) : Type 0 where
  pub blanks : List (List ℕ)
  pub line : List ℕ
  pub blank : spoken blanks ≡ []
  pub between : Option (List ℕ)
  pub passed : TakesLines unread blanks between
  pub spoken_is : is_spoken line ≡ true
  pub taken : TakesLines between (line ∷ []) left
  pub is : IsTold line told hand.line

-- or all lines were blank
pub record PassesAll (unread left : Option (List ℕ)) : Type 0 where
  pub blanks : List (List ℕ)
  pub blank : spoken blanks ≡ []
  pub passed : TakesLines unread blanks left
  pub ended : IsAtEnd left

-- the next line that is not blank was told, or all lines were blank
abbrev pub FindsSpoken : Option (List ℕ) → Option (List ℕ) → AtHand → Option Told → Type 0
FindsSpoken unread left hand None = PassesAll unread left
FindsSpoken unread left hand (Some told) = TellsSpoken unread left hand told

-- why none was told, where all of a line that is too long is read or not
abbrev pub StopsBefore : Bool → Option (List ℕ) → Option (List ℕ) → TextFault → Type 0
StopsBefore reads_on unread left Input = BreaksOffBefore unread left
StopsBefore reads_on unread left TooLong =
    ((off : BreaksOffBefore unread left) × IsTooMuch reads_on off.none.bytes) ⊎ ComesTooMuchBefore unread
StopsBefore reads_on unread left NotJson = ⊥
StopsBefore reads_on unread left (Shape n) = ⊥
StopsBefore reads_on unread left (Config field) = ⊥
StopsBefore reads_on unread left Memory = ⊥
StopsBefore reads_on unread left Output = ⊥
