-- What the drawing of a journal reads and writes.
use Rattle.std.specs.Prelude.{◌≡◌, ◌⊎◌, ℕ, List, [], Option}
use Rattle.std.specs.Io.KnownBytes.{Appends}
use Rattle.minislots.specs.declared.config.Config.{Config as Configuration}
use Rattle.sched_calls.specs.declared.reply.Entry.{Entry}
use Rattle.text_stream.specs.declared.fault.TextFault.{TextFault}
use Rattle.text_stream.specs.declared.fault.TextFault.TheVariants.{Input, TooLong, NotJson, Shape, Config, Memory}
use Rattle.text_stream.specs.declared.fault.TextFault.TheVariants.{Output}
use Rattle.text_stream.specs.declared.run_fault.RunFault.{RunFault}
use Rattle.text_stream.specs.declared.run_fault.RunFault.TheVariants.{Text, Threads}
use Rattle.journal_entries.specs.declared.end.EntriesEnd.{EntriesEnd}
use Rattle.journal_entries.specs.declared.end.EntriesEnd.TheVariants.{Bad}
use Rattle.journal_entries.specs.Standing.{StandFor}
use Rattle.journal_entries.specs.Journal.{Came, HasNoOpening, StopsJournal}
use Rattle.journal_entries.specs.End.{EndsBehind}
use Rattle.frame_picture.specs.declared.span.Span.{Span}
use Rattle.frame_picture.specs.Part.{HasManyDrawn}
use Rattle.frame_picture.specs.Picture.{plan_text}

-- These entries stand before the end of a journal, and are legal, and the picture of their frames in the span, by the
-- plan, was written
pub record DrawnEntries (span : Span) (unread left before after : Option (List ℕ)) (end : EntriesEnd) : Type 0 where
  pub config : Configuration
  pub entries : List Entry
  pub ends : EndsBehind unread left config entries end
  pub written : Appends before after (plan_text config span entries)

-- The journal has no lawful configuration, and nothing was written
pub record DrawnNothing (unread left before after : Option (List ℕ)) (end : EntriesEnd) : Type 0 where
  pub none : HasNoOpening unread left
  pub bad : end ≡ Bad 0
  pub written : Appends before after []

-- what was drawn of a journal
abbrev pub DrawnJournal : Span → Option (List ℕ) → Option (List ℕ) → Option (List ℕ) → Option (List ℕ) → EntriesEnd
    → Type 0
DrawnJournal span unread left before after end =
    DrawnEntries span unread left before after end ⊎ DrawnNothing unread left before after end

-- The first lines of a journal stand for more entries than a picture may have
pub record HasTooManyDrawn (span : Span) (unread left : Option (List ℕ)) : Type 0 where
  pub lines : List (List ℕ)
  pub behind : List ℕ
  pub came : Came unread left lines behind
  pub config : Configuration
  pub entries : List Entry
  pub stand : StandFor lines config entries
  pub many : HasManyDrawn span entries

-- why the entries of a journal are not all taken
abbrev pub StopsEntries : Span → Option (List ℕ) → Option (List ℕ) → TextFault → Type 0
StopsEntries span unread left Input = StopsJournal unread left Input
StopsEntries span unread left TooLong = HasTooManyDrawn span unread left ⊎ StopsJournal unread left TooLong
StopsEntries span unread left NotJson = ⊥
StopsEntries span unread left (Shape n) = ⊥
StopsEntries span unread left (Config field) = ⊥
StopsEntries span unread left Memory = Unit {0}
StopsEntries span unread left Output = ⊥

-- why the drawing of a journal ends; where memory runs out or a write fails nothing more is told
abbrev pub StopsJournalDrawing : Span → Option (List ℕ) → Option (List ℕ) → RunFault → Type 0
StopsJournalDrawing span unread left (Text Input) = StopsEntries span unread left Input
StopsJournalDrawing span unread left (Text TooLong) = StopsEntries span unread left TooLong
StopsJournalDrawing span unread left (Text NotJson) = ⊥
StopsJournalDrawing span unread left (Text (Shape n)) = ⊥
StopsJournalDrawing span unread left (Text (Config field)) = ⊥
StopsJournalDrawing span unread left (Text Memory) = Unit {0}
StopsJournalDrawing span unread left (Text Output) = Unit {0}
StopsJournalDrawing span unread left Threads = ⊥
