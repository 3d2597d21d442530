-- How far a conversation has come, and how it ends.
use Rattle.std.specs.Prelude.{◌≡◌, ◌⊎◌, ℕ, ◌+◌, ◌-◌, ◌^◌, ◌≤◌, Bool, true, false, List, [], ◌∷◌}
use Rattle.std.specs.Prelude.{◌++◌, length, Option, None, Some}
use Rattle.std.specs.Io.KnownBytes.{Appends, IsAtEnd}
use Rattle.minislots.specs.declared.config.Config.{Config as Configuration}
use Rattle.sched_calls.specs.declared.reply.Entry.{Entry}
use Rattle.sched_history.specs.Machine.{Machine}
use Rattle.text_stream.specs.declared.Told.{Told}
use Rattle.text_stream.specs.Lines.{lines_of, TakesLines}
use Rattle.text_stream.specs.Told.{AtHand, IsTold, HasNoEnd}
use Rattle.text_stream.specs.declared.fault.TextFault.TheVariants.{Input, TooLong, NotJson, Shape, Config, Memory}
use Rattle.text_stream.specs.declared.fault.TextFault.TheVariants.{Output}
use Rattle.live_command.specs.declared.fault.LiveFault.{LiveFault}
use Rattle.live_command.specs.declared.fault.LiveFault.TheVariants.{Text, Journal, OtherConfig, BadJournal}
use Rattle.live_command.specs.declared.wording.Wording.{Wording}
use Rattle.live_command.specs.Spoken.{spoken}
use Rattle.live_command.specs.Answers.{Point, point_at, SaysEach, joined, Waiting, IsCounted}
use Rattle.live_command.specs.Sending.{AppendsInPart}

-- Where a conversation begins: under this configuration, with the history that was resumed, and with what is to be read
-- and what was written
pub record Start : Type 0 where
  pub config : Configuration
  pub wording : Wording
  pub resumed : List Entry
  pub unread : Option (List ℕ)
  pub written : Option (List ℕ)

-- these are all lines of what was to be read
abbrev pub AreLines : Option (List ℕ) → List (List ℕ) → Type 0
AreLines None lines = Unit {0}
AreLines (Some text) lines = lines_of text ≡ lines

-- these are the first of them
abbrev pub BeginsWith : Option (List ℕ) → List (List ℕ) → Type 0
BeginsWith None lines = Unit {0}
BeginsWith (Some text) lines = (others : List (List ℕ)) × (lines_of text ≡ lines ++ others)

-- So many lines at least were answered. The answers to some of them are written, and their entries are in the journal.
-- The answers to the others wait, and their entries are kept by the scheduler
pub record Talk (s : Start) (turns : ℕ) (m : Machine) (left written : Option (List ℕ)) (stands : List Entry → Type 0)
    (waits : Waiting) : Type 0 where
  pub lines : List (List ℕ)
  pub texts : List (List ℕ)
  pub point : Point
  pub says : SaysEach s.config s.wording (point_at s.resumed) (spoken lines) texts point
  pub stood : stands point.history
  pub out : Appends s.written written (joined texts)
  pub more : List (List ℕ)
  pub answers : List (List ℕ)
  pub now : Point
  pub says_more : SaysEach s.config s.wording point (spoken more) answers now
  pub history : now.history ≡ m.history
  pub waiting : waits.text ≡ joined answers
  pub counted : IsCounted now waits
  pub read : TakesLines s.unread (lines ++ more) left
  pub config : m.config ≡ s.config
  pub handed : m.handed ≡ length point.history
  pub many : turns ≤ length (lines ++ more)

-- The next line was told, and is not answered yet
pub record TellsOn (s : Start) (turns : ℕ) (m : Machine) (left written : Option (List ℕ))
    (stands : List Entry → Type 0) (waits : Waiting) (hand : AtHand) (told : Told) : Type 0 where
  pub line : List ℕ
  pub is : IsTold line told hand.line
  pub between : Option (List ℕ)
  pub talk : Talk s turns m between written stands waits
  pub taken : TakesLines between (line ∷ []) left

-- All lines of the input were read and answered, one text to each that is not blank, in order: the texts were written,
-- and nothing else. The journal stands for the whole history
pub record Conversed (s : Start) (m : Machine) (left written : Option (List ℕ)) (stands : List Entry → Type 0) : Type 0
  where
    pub lines : List (List ℕ)
    pub read : AreLines s.unread lines
    pub ended : IsAtEnd left
    pub texts : List (List ℕ)
    pub point : Point
    pub says : SaysEach s.config s.wording (point_at s.resumed) (spoken lines) texts point
    pub history : point.history ≡ m.history
    pub out : Appends s.written written (joined texts)
    pub stood : stands m.history

-- one line more was answered, and the conversation goes on; or all of them were
abbrev pub IsTurn : Start → ℕ → Machine → Option (List ℕ) → Option (List ℕ) → (List Entry → Type 0) → Waiting → Bool
    → Type 0
IsTurn s turns m left written stands waits true = Talk s (turns + 1) m left written stands waits
IsTurn s turns m left written stands waits false = Conversed s m left written stands

-- However a conversation ends, with this whole history, its answers are those to the first lines of the input, and what
-- was written is the first bytes of the texts. The journal stands for a front of the history of the lines that were
-- answered, and has the entry of each answer of which a byte was written
pub record Stopped (s : Start) (whole : List Entry) (written : Option (List ℕ)) (stands : List Entry → Type 0) : Type 0
  where
    -- lines, of whose answers bytes may have been written
    pub lines : List (List ℕ)
    pub texts : List (List ℕ)
    pub point : Point
    pub says : SaysEach s.config s.wording (point_at s.resumed) (spoken lines) texts point
    pub out : AppendsInPart s.written written (joined texts)
    -- and lines behind them, of whose answers no byte was written
    pub more : List (List ℕ)
    pub answers : List (List ℕ)
    pub now : Point
    pub says_more : SaysEach s.config s.wording point (spoken more) answers now
    pub history : now.history ≡ whole
    pub read : BeginsWith s.unread (lines ++ more)
    -- the entries of the first lines and some behind them
    pub stood : List Entry
    pub stands_for : stands stood
    pub behind : List Entry
    pub stood_is : stood ≡ point.history ++ behind
    pub others : List Entry
    pub whole_is : whole ≡ stood ++ others

-- All whole lines that came were answered, the answers are written and their entries are in the journal; and no
-- newline came behind them
pub record BreaksOff (s : Start) (m : Machine) (left written : Option (List ℕ)) (stands : List Entry → Type 0) : Type 0
  where
    pub lines : List (List ℕ)
    pub between : Option (List ℕ)
    pub read : TakesLines s.unread lines between
    pub none : HasNoEnd between left
    pub texts : List (List ℕ)
    pub point : Point
    pub says : SaysEach s.config s.wording (point_at s.resumed) (spoken lines) texts point
    pub history : point.history ≡ m.history
    pub out : Appends s.written written (joined texts)
    pub stood : stands m.history

-- So many lines came that a number of 64 bits cannot count them
pub record ComesTooMuch (s : Start) : Type 0 where
  pub lines : List (List ℕ)
  pub read : BeginsWith s.unread lines
  pub many : 2 ^ 64 - 1 ≤ length lines

-- the journal, memory or a writer, which may fail anywhere
abbrev pub IsAnywhere : LiveFault → Type 0
IsAnywhere fault = (fault ≡ Journal) ⊎ ((fault ≡ Text Memory) ⊎ (fault ≡ Text Output))

-- why a conversation ends before its input does
abbrev pub StopsTalk : Start → Machine → Option (List ℕ) → Option (List ℕ) → (List Entry → Type 0) → LiveFault → Type 0
StopsTalk s m left written stands (Text Input) = BreaksOff s m left written stands
StopsTalk s m left written stands (Text TooLong) =
    ((off : BreaksOff s m left written stands) × (2 ^ 64 - 1 ≤ length off.none.bytes)) ⊎ ComesTooMuch s
StopsTalk s m left written stands (Text NotJson) = ⊥
StopsTalk s m left written stands (Text (Shape n)) = ⊥
StopsTalk s m left written stands (Text (Config field)) = ⊥
StopsTalk s m left written stands (Text Memory) = Unit {0}
StopsTalk s m left written stands (Text Output) = Unit {0}
StopsTalk s m left written stands Journal = Unit {0}
StopsTalk s m left written stands (OtherConfig difference) = ⊥
StopsTalk s m left written stands (BadJournal line) = ⊥

-- where a conversation begins with this scheduler
abbrev pub start_at : Wording → Machine → Option (List ℕ) → Option (List ℕ) → Start
start_at wording m unread written = record {
  config = m.config;
  wording = wording;
  resumed = m.history;
  unread = unread;
  written = written;
}
