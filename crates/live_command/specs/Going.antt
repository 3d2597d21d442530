-- A conversation that goes on after a journal was resumed.
use Rattle.std.specs.Prelude.{◌≡◌, ◌≢◌, ◌⊎◌, ℕ, ◌-◌, ◌^◌, ◌≤◌, Bool, true, false, nat_lt}
use Rattle.std.specs.Prelude.{if◌then◌else◌, List, [], ◌∷◌, ◌++◌, length, Option, None, Some, Result, Ok, Err}
use Rattle.minislots.specs.declared.config.Config.{Config as Configuration}
use Rattle.sched_calls.specs.declared.reply.Entry.{Entry}
use Rattle.sched_history.specs.Machine.{Machine}
use Rattle.text_stream.specs.declared.TheConstants.{MAX_LINE}
use Rattle.text_stream.specs.declared.Told.{Told}
use Rattle.text_stream.specs.declared.Told.TheVariants.{Line, Long}
use Rattle.text_stream.specs.Lines.{TakesLines}
use Rattle.text_stream.specs.Told.{AtHand}
use Rattle.text_stream.specs.declared.fault.TextFault.{TextFault}
use Rattle.text_stream.specs.declared.fault.TextFault.TheVariants.{Input, TooLong, NotJson, Shape, Config, Memory}
use Rattle.text_stream.specs.declared.fault.TextFault.TheVariants.{Output}
use Rattle.live_command.specs.declared.difference.Difference.{Difference}
use Rattle.live_command.specs.Difference.{first_of, differences_of}
use Rattle.live_command.specs.declared.fault.LiveFault.{LiveFault}
use Rattle.live_command.specs.declared.fault.LiveFault.TheVariants.{Text, Journal, OtherConfig, BadJournal}
use Rattle.live_command.specs.declared.journal.BeginFault.{BeginFault}
use Rattle.live_command.specs.declared.said.Said.{Said}
use Rattle.live_command.specs.declared.wording.Wording.{Wording}
use Rattle.live_command.specs.declared.said.Said.TheVariants as saying
use Rattle.live_command.specs.Said.{said_in}
use Rattle.live_command.specs.Spoken.{is_spoken, spoken}
use Rattle.live_command.specs.Held.{NotBegun}
use Rattle.live_command.specs.Opening.{opening_in, Opens, HasNoOpening, BreaksOffBefore, ComesTooMuchBefore}
use Rattle.live_command.specs.Opening.{TellsSpoken}
use Rattle.live_command.specs.Talk.{start_at, BeginsWith, Conversed, Stopped, StopsTalk}

-- whether a text says a configuration, lawful or not: it is JSON, and has the member `config`
abbrev pub says_config : Result Said TextFault → Bool
says_config (Ok (saying.Opening config)) = true
says_config (Ok saying.Stats) = false
says_config (Ok (saying.Call call)) = false
says_config (Err fault) = false

-- a line that is an opening where one may be left out: it is not long, and says a configuration
unfoldable pub is_opening : List ℕ → Bool
is_opening line = if nat_lt MAX_LINE (length line) then false else says_config (said_in line)

-- the text of a first line is told, since it says no configuration; or it is the opening, with this one
abbrev pub IsFront : Configuration → List ℕ → Option Told → Type 0
IsFront config line None = (says_config (said_in line) ≡ true) × (opening_in line ≡ Ok config)
IsFront config line (Some Line) = says_config (said_in line) ≡ false
IsFront config line (Some Long) = ⊥

-- the text of an opening has a fault, or another configuration
abbrev pub Misses : Configuration → List ℕ → LiveFault → Type 0
Misses config line (Text fault) = fault ≢ Memory → opening_in line ≡ Err fault
Misses config line Journal = ⊥
Misses config line (OtherConfig difference) = (other : Configuration) × (other ≢ config)
    × (first_of (differences_of config other) ≡ Some difference) × (opening_in line ≡ Ok other)
Misses config line (BadJournal n) = ⊥

-- why a first line ends the conversation: memory ran out, or the line says a configuration, and this is wrong with it
abbrev pub MissesFront : Configuration → List ℕ → LiveFault → Type 0
MissesFront config line fault =
    (fault ≡ Text Memory) ⊎ ((says_config (said_in line) ≡ true) × Misses config line fault)

-- The first line that is not blank is an opening, and was read
pub record OpensAgain (unread left : Option (List ℕ)) (outcome : Result Configuration TextFault) : Type 0 where
  pub opens : Opens unread left outcome
  pub is : is_opening opens.line ≡ true

-- The input has a line that is not blank, and the first such line is no opening
pub record BeginsOtherwise (unread : Option (List ℕ)) : Type 0 where
  pub blanks : List (List ℕ)
  pub line : List ℕ
  pub blank : spoken blanks ≡ []
  pub spoken_is : is_spoken line ≡ true
  pub read : BeginsWith unread (blanks ++ line ∷ [])
  pub other : is_opening line ≡ false

-- where the lines begin that are answered: behind an opening with this configuration; or it was left out, and they are
-- all lines
abbrev pub GoesFrom : Configuration → Option (List ℕ) → Option (List ℕ) → Type 0
GoesFrom config unread behind =
    OpensAgain unread behind (Ok config) ⊎ ((HasNoOpening unread ⊎ BeginsOtherwise unread) × (behind ≡ unread))

-- All lines were answered, and the history that was resumed has their calls behind it
pub record WentOn (wording : Wording) (old new : Machine) (unread left before written : Option (List ℕ))
    (stands : List Entry → Type 0) : Type 0 where
  pub behind : Option (List ℕ)
  pub goes : GoesFrom old.config unread behind
  pub conversed : Conversed (start_at wording old behind before) new left written stands

-- nothing was written, to the writer and the journal, and no call was made
abbrev pub NotGoing : {W J : Type 0} → Machine → Machine → W → W → J → J → Type 0
NotGoing old new writer_old writer_new journal_old journal_new =
    (new ≡ old) × (writer_new ≡ writer_old) × (journal_new ≡ journal_old)

-- an opening was read to its end, with this fault
abbrev pub OpensAgainWith : Option (List ℕ) → TextFault → Type 0
OpensAgainWith unread fault = (behind : Option (List ℕ)) × OpensAgain unread behind (Err fault)

-- a lawful opening was read, and has another configuration, which differs first here
abbrev pub OpensOther : Configuration → Option (List ℕ) → Difference → Type 0
OpensOther config unread difference = (other : Configuration) × (other ≢ config)
    × (first_of (differences_of config other) ≡ Some difference)
    × ((behind : Option (List ℕ)) × OpensAgain unread behind (Ok other))

-- why a conversation does not go on: its opening has a fault or another configuration, or no line came
abbrev pub StopsGoing : Configuration → Option (List ℕ) → Option (List ℕ) → LiveFault → Type 0
StopsGoing config unread left (Text Input) = BreaksOffBefore unread left
StopsGoing config unread left (Text TooLong) =
    ((off : BreaksOffBefore unread left) × (2 ^ 64 - 1 ≤ length off.none.bytes)) ⊎ ComesTooMuchBefore unread
StopsGoing config unread left (Text NotJson) = ⊥
StopsGoing config unread left (Text (Shape n)) = OpensAgainWith unread (Shape n)
StopsGoing config unread left (Text (Config field)) = OpensAgainWith unread (Config field)
StopsGoing config unread left (Text Memory) = Unit {0}
StopsGoing config unread left (Text Output) = ⊥
StopsGoing config unread left Journal = ⊥
StopsGoing config unread left (OtherConfig difference) = OpensOther config unread difference
StopsGoing config unread left (BadJournal line) = ⊥

-- What stands in front was read, and the journal did not begin
pub record GoesUnbegun (old : Machine) (unread : Option (List ℕ)) (refuses : BeginFault → Type 0) (quiet : Type 0)
    (may : List Entry → Type 0) (fault : LiveFault) : Type 0 where
  pub behind : Option (List ℕ)
  pub goes : GoesFrom old.config unread behind
  pub unbegun : NotBegun refuses quiet may old.history fault

-- What stands in front was read, and the conversation ended early
pub record GoesEarly (wording : Wording) (old new : Machine) (unread left before written : Option (List ℕ))
    (stands : List Entry → Type 0) (fault : LiveFault) : Type 0 where
  pub behind : Option (List ℕ)
  pub goes : GoesFrom old.config unread behind
  pub stopped : Stopped (start_at wording old behind before) new.history written stands
  pub stops : StopsTalk (start_at wording old behind before) new left written stands fault

-- a conversation that was to go on ended early: before what stands in front was read, before its journal began, or
-- behind these
abbrev pub EndsGoing : Wording → Machine → Machine → Option (List ℕ) → Option (List ℕ) → Option (List ℕ)
    → Option (List ℕ) → (BeginFault → Type 0) → (List Entry → Type 0) → (List Entry → Type 0) → Type 0 → Type 0
    → LiveFault → Type 0
EndsGoing wording old new unread left before written refuses may stands untouched quiet fault =
    (StopsGoing old.config unread left fault × untouched)
    ⊎ (GoesUnbegun old unread refuses quiet may fault
    ⊎ GoesEarly wording old new unread left before written stands fault)

-- The first line is a line of the conversation, and was told
pub record TellsFirst (unread left : Option (List ℕ)) (hand : AtHand) (told : Told) : Type 0 where
  pub tells : TellsSpoken unread left hand told
  pub other : is_opening tells.line ≡ false

-- Lines were passed that stand in front: an opening with this configuration, or blank ones alone
pub record PassesFront (config : Configuration) (unread left : Option (List ℕ)) : Type 0 where
  pub behind : Option (List ℕ)
  pub goes : GoesFrom config unread behind
  pub blanks : List (List ℕ)
  pub blank : spoken blanks ≡ []
  pub passed : TakesLines behind blanks left

-- what stands in front was read: the first line of the conversation was told, or none was
abbrev pub ReadsFront : Configuration → Option (List ℕ) → Option (List ℕ) → AtHand → Option Told → Type 0
ReadsFront config unread left hand None = PassesFront config unread left
ReadsFront config unread left hand (Some told) = TellsFirst unread left hand told
