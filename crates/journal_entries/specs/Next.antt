-- What a reader of a journal's entries has given, and what comes next.
use Rattle.std.specs.Prelude.{◌≡◌, ℕ, ◌≤◌, if◌then◌else◌, List, [], ◌∷◌, ◌++◌, length, Option}
use Rattle.minislots.specs.declared.config.Config.{Config}
use Rattle.sched_calls.specs.declared.reply.Entry.{Entry}
use Rattle.sched_calls.specs.declared.reply.TheConstants.{MAX_WHOLE_HISTORY}
use Rattle.sched_history.specs.Machine.{Past}
use Rattle.sched_calls.specs.Reply.{IsEncodable}
use Rattle.text_stream.specs.declared.Told.{Told}
use Rattle.text_stream.specs.declared.Told.TheVariants.{Line, Long}
use Rattle.text_stream.specs.Told.{untold, TellsWhole}
use Rattle.journal_entries.specs.declared.entries.JournalEntries.{JournalEntries}
use Rattle.journal_entries.specs.declared.entries.Next.{Next}
use Rattle.journal_entries.specs.declared.entries.Next.TheVariants as next
use Rattle.journal_entries.specs.Journal.{StandSoFar, FindsLegal, FindsIllegalIn, FindsNoEntryIn}

-- the first lines of a journal stand for what was given, and these bytes are left of it
abbrev pub HasGiven : Option (List ℕ) → Option (List ℕ) → JournalEntries → Type 0
HasGiven before remaining given =
    StandSoFar before (untold given.lines remaining) given.auditor.config given.auditor.history

-- an entry that is given was taken by the auditor, behind those before it, and its MAP has bytes; else nothing was
abbrev pub TakesNext : Past → Past → Next → Type 0
TakesNext old new (next.Entry entry) =
    (new ≡ record old { history = old.history ++ entry ∷ [] }) × IsEncodable entry.reply
TakesNext old new (next.Illegal place) = new ≡ old
TakesNext old new (next.Bad line) = new ≡ old
TakesNext old new (next.End torn) = new ≡ old

-- The next line stands for an entry that may not follow those that were given, and this is its place
pub record MeetsIllegalAt (before remaining : Option (List ℕ)) (old : JournalEntries) (place : ℕ) : Type 0 where
  pub entry : Entry
  pub found : FindsIllegalIn before remaining old.auditor.config (old.auditor.history ++ entry ∷ []) place
  pub behind : place ≡ length old.auditor.history
  pub most : place ≤ MAX_WHOLE_HISTORY

-- what comes next of a journal: where an entry was given the lines stand for that too, and at the end they all stand
-- for what was given
abbrev pub IsNext : Option (List ℕ) → Option (List ℕ) → JournalEntries → JournalEntries → Next → Type 0
IsNext before remaining old new (next.Entry entry) = HasGiven before remaining new
IsNext before remaining old new (next.Illegal place) = MeetsIllegalAt before remaining old place
IsNext before remaining old new (next.Bad line) =
    FindsNoEntryIn before remaining old.auditor.config old.auditor.history line
IsNext before remaining old new (next.End torn) =
    FindsLegal before remaining old.auditor.config old.auditor.history torn

-- a journal was opened: its first line is this configuration, and nothing was given yet
pub record HasOpened (before remaining : Option (List ℕ)) (c : Config) (new : JournalEntries) : Type 0 where
  pub config_is : new.auditor.config ≡ c
  pub none : new.auditor.history ≡ []
  pub stand : HasGiven before remaining new

-- what is told of the line that was read last
abbrev pub told_last : JournalEntries → Told
told_last entries = if entries.is_long then Long else Line

-- the line that stands for no entry is the one that was read last, and is shown where it is not long
abbrev pub ShowsBad : Option (List ℕ) → Option (List ℕ) → JournalEntries → Next → Type 0
ShowsBad unread left new (next.Entry entry) = Unit {0}
ShowsBad unread left new (next.Illegal place) = Unit {0}
ShowsBad unread left new (next.Bad line) = TellsWhole unread left new.lines (told_last new)
ShowsBad unread left new (next.End torn) = Unit {0}
