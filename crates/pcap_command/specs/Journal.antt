-- What the capture of a journal reads and writes.
use Rattle.std.specs.Prelude.{◌≡◌, ◌⊎◌, ℕ, List, [], map, Option, Ok}
use Rattle.std.specs.List.{flat_map}
use Rattle.std.specs.Io.KnownBytes.{Appends}
use Rattle.minislots.specs.declared.config.Config.{Config as Configuration}
use Rattle.sched_calls.specs.declared.reply.Entry.{Entry}
use Rattle.text_stream.specs.declared.fault.TextFault.{TextFault}
use Rattle.text_stream.specs.declared.fault.TextFault.TheVariants.{Input, TooLong, NotJson, Shape, Config, Memory}
use Rattle.text_stream.specs.declared.fault.TextFault.TheVariants.{Output}
use Rattle.journal_entries.specs.declared.end.EntriesEnd.{EntriesEnd}
use Rattle.journal_entries.specs.declared.end.EntriesEnd.TheVariants.{Bad}
use Rattle.journal_entries.specs.Journal.{HasNoOpening, StopsJournal}
use Rattle.journal_entries.specs.End.{EndsBehind}
use Rattle.sched_calls.specs.Reply.{Answer}
use Rattle.pcap_command.specs.declared.output.WireOutput.TheVariants.{Capture}
use Rattle.pcap_command.specs.Capture.{maps_of, capture_of}
use Rattle.pcap_command.specs.Items.{item_of}

-- the answer that an entry has
abbrev pub answer_of : Entry → Answer
answer_of entry = Ok entry.reply

-- what an entry adds to a capture
abbrev pub entry_item : Configuration → List ℕ → Entry → List ℕ
entry_item c address entry = item_of Capture c address (answer_of entry)

-- what entries add
unfoldable pub entries_text : Configuration → List ℕ → List Entry → List ℕ
entries_text c address es = flat_map (entry_item c address) es

-- the capture of the MAPs of entries
abbrev pub capture_of_entries : Configuration → List ℕ → List Entry → List ℕ
capture_of_entries c address es = capture_of c address (maps_of (map answer_of es))

-- These entries stand before the end of a journal, and what they add was written
pub record PutsEntries (address : List ℕ) (unread left : Option (List ℕ)) (c : Configuration)
    (before after : Option (List ℕ)) (end : EntriesEnd) : Type 0 where
  pub entries : List Entry
  pub ends : EndsBehind unread left c entries end
  pub written : Appends before after (entries_text c address entries)

-- These entries stand before the end of a journal, and the capture of their MAPs was written
pub record CapturedEntries (address : List ℕ) (unread left before after : Option (List ℕ)) (end : EntriesEnd)
    : Type 0 where
  pub config : Configuration
  pub entries : List Entry
  pub ends : EndsBehind unread left config entries end
  pub written : Appends before after (capture_of_entries config address entries)

-- The journal has no lawful configuration, and nothing was written
pub record CapturedNothing (unread left before after : Option (List ℕ)) (end : EntriesEnd) : Type 0 where
  pub none : HasNoOpening unread left
  pub bad : end ≡ Bad 0
  pub written : Appends before after []

-- what was captured of a journal
abbrev pub Captured : List ℕ → Option (List ℕ) → Option (List ℕ) → Option (List ℕ) → Option (List ℕ) → EntriesEnd
    → Type 0
Captured address unread left before after end =
    CapturedEntries address unread left before after end ⊎ CapturedNothing unread left before after end

-- why the entries of a journal are not put to its end; a failed write tells nothing more
abbrev pub StopsEntries : Option (List ℕ) → Option (List ℕ) → TextFault → Type 0
StopsEntries unread left Input = StopsJournal unread left Input
StopsEntries unread left TooLong = StopsJournal unread left TooLong
StopsEntries unread left NotJson = ⊥
StopsEntries unread left (Shape n) = ⊥
StopsEntries unread left (Config field) = ⊥
StopsEntries unread left Memory = Unit {0}
StopsEntries unread left Output = Unit {0}
