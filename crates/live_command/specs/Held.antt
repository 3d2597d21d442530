-- A conversation from its opening on.
use Rattle.std.specs.Prelude.{◌≡◌, ◌⊎◌, ℕ, List, [], Option, Ok}
use Rattle.std.specs.Io.KnownBytes.{IsAtEnd}
use Rattle.minislots.specs.declared.config.Config.{Config}
use Rattle.sched_calls.specs.declared.reply.Entry.{Entry}
use Rattle.sched_history.specs.Machine.{Machine}
use Rattle.text_stream.specs.declared.fault.TextFault.{TextFault}
use Rattle.live_command.specs.declared.fault.LiveFault.{LiveFault}
use Rattle.live_command.specs.declared.fault.LiveFault.TheVariants.{Text}
use Rattle.live_command.specs.declared.journal.BeginFault.{BeginFault}
use Rattle.live_command.specs.declared.wording.Wording.{Wording}
use Rattle.live_command.specs.Fault.{fault_of_begin}
use Rattle.live_command.specs.Opening.{Opens, StopsOpening}
use Rattle.live_command.specs.Talk.{Start, Conversed, Stopped, StopsTalk}

-- where a new conversation begins, behind its opening
abbrev pub start_new : Config → Wording → Option (List ℕ) → Option (List ℕ) → Start
start_new config wording unread written = record {
  config = config;
  wording = wording;
  resumed = [];
  unread = unread;
  written = written;
}

-- The opening was read, and all lines behind it were answered
pub record Held (wording : Wording) (unread left before written : Option (List ℕ))
    (stands : Config → List Entry → Type 0) : Type 0 where
  pub config : Config
  pub behind : Option (List ℕ)
  pub opened : Opens unread behind (Ok config)
  pub scheduler : Machine
  pub rest : Option (List ℕ)
  pub conversed : Conversed (start_new config wording behind before) scheduler rest written (stands config)
  pub ended : IsAtEnd left

-- nothing was written, to the writer and the journal
abbrev pub NotOpened : {W J : Type 0} → W → W → J → J → Type 0
NotOpened writer_old writer_new journal_old journal_new = (writer_new ≡ writer_old) × (journal_new ≡ journal_old)

-- The journal did not begin, for a reason that it may have: nothing was written to the output, and a later attempt may
-- still begin the journal with these entries
pub record NotBegun (refuses : BeginFault → Type 0) (quiet : Type 0) (may : List Entry → Type 0) (entries : List Entry)
    (fault : LiveFault) : Type 0 where
  pub why : BeginFault
  pub refused : refuses why
  pub is : fault ≡ fault_of_begin why
  pub unwritten : quiet
  pub begins : may entries

-- The opening was read, and the journal did not begin
pub record EndsUnbegun (unread : Option (List ℕ)) (refuses : Config → BeginFault → Type 0) (quiet : Type 0)
    (may : Config → List Entry → Type 0) (fault : LiveFault) : Type 0 where
  pub config : Config
  pub behind : Option (List ℕ)
  pub opened : Opens unread behind (Ok config)
  pub unbegun : NotBegun (refuses config) quiet (may config) [] fault

-- The opening was read, and the conversation behind it ended early
pub record EndsTalk (wording : Wording) (unread left before written : Option (List ℕ))
    (stands : Config → List Entry → Type 0) (fault : LiveFault) : Type 0 where
  pub config : Config
  pub behind : Option (List ℕ)
  pub opened : Opens unread behind (Ok config)
  pub scheduler : Machine
  pub stopped : Stopped (start_new config wording behind before) scheduler.history written (stands config)
  pub stops : StopsTalk (start_new config wording behind before) scheduler left written (stands config) fault

-- the opening was not read
abbrev pub EndsUnopened : Option (List ℕ) → Option (List ℕ) → Type 0 → LiveFault → Type 0
EndsUnopened unread left untouched fault =
    (why : TextFault) × (fault ≡ Text why) × StopsOpening unread left why × untouched

-- a conversation ended early: before its opening was read, before its journal began, or behind these
abbrev pub Ends : Wording → Option (List ℕ) → Option (List ℕ) → Option (List ℕ) → Option (List ℕ)
    → (Config → BeginFault → Type 0) → (Config → List Entry → Type 0) → (Config → List Entry → Type 0) → Type 0 → Type 0
    → LiveFault → Type 0
Ends wording unread left before written refuses may stands untouched quiet fault =
    EndsUnopened unread left untouched fault
    ⊎ (EndsUnbegun unread refuses quiet may fault ⊎ EndsTalk wording unread left before written stands fault)
