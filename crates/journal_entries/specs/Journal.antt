-- What stands in a journal, whose bytes come from a reader.
use Rattle.std.specs.Prelude.{◌≡◌, ◌⊎◌, ℕ, ◌+◌, ◌-◌, ◌^◌, ◌≤◌, min, List, [], ◌∷◌, ◌++◌, length, Option, None}
use Rattle.std.specs.List.{AllByRecursion}
use Rattle.std.specs.Io.KnownBytes.{Consumes, IsAtEnd}
use Rattle.minislots.specs.declared.config.Config.{Config as Configuration}
use Rattle.sched_calls.specs.declared.reply.Entry.{Entry}
use Rattle.sched_calls.specs.declared.reply.TheConstants.{MAX_WHOLE_HISTORY}
use Rattle.sched_history.specs.History.{IsLegal}
use Rattle.sched_history.specs.Audit.{IsFirstIllegal}
use Rattle.text_stream.specs.declared.fault.TextFault.{TextFault}
use Rattle.text_stream.specs.declared.fault.TextFault.TheVariants.{Input, TooLong, NotJson, Shape, Config, Memory}
use Rattle.text_stream.specs.declared.fault.TextFault.TheVariants.{Output}
use Rattle.text_stream.specs.Lines.{IsWithinLine}
use Rattle.journal_entries.specs.Standing.{StandFor, config_in_line, entry_in_line, ended_lines}

-- These whole lines came first, and these bytes behind them
pub record Came (before left : Option (List ℕ)) (lines : List (List ℕ)) (behind : List ℕ) : Type 0 where
  pub consumed : Consumes before left (ended_lines lines ++ behind)
  pub within : AllByRecursion IsWithinLine lines

-- All bytes came: whole lines, and behind them no newline
pub record CameAll (before left : Option (List ℕ)) (lines : List (List ℕ)) (torn : List ℕ) : Type 0 where
  pub came : Came before left lines torn
  pub ended : IsAtEnd left
  pub is_torn : IsWithinLine torn

-- The first lines came, and stand for a legal history
pub record StandSoFar (before left : Option (List ℕ)) (c : Configuration) (es : List Entry) : Type 0 where
  pub lines : List (List ℕ)
  pub came : Came before left lines []
  pub stand : StandFor lines c es
  pub legal : IsLegal c es

-- All whole lines stand for a legal history of these entries, and so many bytes stand behind the last newline; the
-- number stops at the greatest of 64 bits
pub record FindsLegal (before left : Option (List ℕ)) (c : Configuration) (es : List Entry) (torn : ℕ) : Type 0 where
  pub lines : List (List ℕ)
  pub behind : List ℕ
  pub came : CameAll before left lines behind
  pub stand : StandFor lines c es
  pub legal : IsLegal c es
  pub torn_is : torn ≡ min (length behind) (2 ^ 64 - 1)

-- The first lines stand for these entries, and the last of them, at this place, is the first that may not follow those
-- before it
pub record FindsIllegalIn (before left : Option (List ℕ)) (c : Configuration) (es : List Entry) (i : ℕ) : Type 0 where
  pub lines : List (List ℕ)
  pub behind : List ℕ
  pub came : Came before left lines behind
  pub stand : StandFor lines c es
  pub last : length es ≡ i + 1
  pub first : IsFirstIllegal c es i

-- the first entry that may not follow those before it is the one with this number
abbrev pub FindsIllegal : Option (List ℕ) → Option (List ℕ) → ℕ → Type 0
FindsIllegal before left i = (c : Configuration) × (es : List Entry) × FindsIllegalIn before left c es i

-- The lines before this one, counted from 0, stand for a legal history of these entries, and it stands for no entry
pub record FindsNoEntryIn (before left : Option (List ℕ)) (c : Configuration) (es : List Entry) (n : ℕ) : Type 0 where
  pub lines : List (List ℕ)
  pub line : List ℕ
  pub behind : List ℕ
  pub came : Came before left (lines ++ line ∷ []) behind
  pub stand : StandFor lines c es
  pub legal : IsLegal c es
  pub none : entry_in_line line ≡ None
  pub number : n ≡ length lines

-- the first line that stands for no entry is the one with this number
abbrev pub FindsNoEntry : Option (List ℕ) → Option (List ℕ) → ℕ → Type 0
FindsNoEntry before left n = (c : Configuration) × (es : List Entry) × FindsNoEntryIn before left c es n

-- The first line stands for no configuration
pub record HasOtherOpening (before left : Option (List ℕ)) : Type 0 where
  pub line : List ℕ
  pub behind : List ℕ
  pub came : Came before left (line ∷ []) behind
  pub none : config_in_line line ≡ None

-- No newline is among all the bytes
pub record HasNoLine (before left : Option (List ℕ)) : Type 0 where
  pub behind : List ℕ
  pub came : CameAll before left [] behind

-- there is no whole line, or the first stands for no configuration
abbrev pub HasNoOpening : Option (List ℕ) → Option (List ℕ) → Type 0
HasNoOpening before left = HasNoLine before left ⊎ HasOtherOpening before left

-- The first lines stand for more entries than a whole history may have
pub record HasTooMany (before left : Option (List ℕ)) : Type 0 where
  pub lines : List (List ℕ)
  pub behind : List ℕ
  pub came : Came before left lines behind
  pub config : Configuration
  pub entries : List Entry
  pub stand : StandFor lines config entries
  pub many : MAX_WHOLE_HISTORY + 1 ≤ length entries

-- Behind whole lines came as many bytes as a number of 64 bits can count, and no newline
pub record HasEndlessLine (before left : Option (List ℕ)) : Type 0 where
  pub lines : List (List ℕ)
  pub line : List ℕ
  pub came : Came before left lines line
  pub within : IsWithinLine line
  pub long : 2 ^ 64 - 1 ≤ length line

-- why a journal is not judged to its end: where memory runs out nothing more is told, and a failed read is told by
-- the reader
abbrev pub StopsJournal : Option (List ℕ) → Option (List ℕ) → TextFault → Type 0
StopsJournal before left Input = Unit {0}
StopsJournal before left TooLong = HasTooMany before left ⊎ HasEndlessLine before left
StopsJournal before left NotJson = ⊥
StopsJournal before left (Shape n) = ⊥
StopsJournal before left (Config field) = ⊥
StopsJournal before left Memory = Unit {0}
StopsJournal before left Output = ⊥
