-- What is found in the file of a journal.
use Rattle.std.specs.Prelude.{◌≡◌, ◌⊎◌, ℕ, ◌+◌, Bool, true, List, length, Option, None, Some}
use Rattle.minislots.specs.declared.config.Config.{Config}
use Rattle.sched_calls.specs.declared.reply.Entry.{Entry}
use Rattle.sched_history.specs.Machine.{Machine}
use Rattle.text_stream.specs.declared.fault.TextFault.TheVariants.{TooLong}
use Rattle.text_stream.specs.Lines.{IsWithinLine}
use Rattle.journal_entries.specs.declared.resuming.Resumed.TheVariants as resumed
use Rattle.journal_entries.specs.Judging.{Resumes, StopsJournal}
use Rattle.journal_file.specs.declared.fault.FileFault.{FileFault}
use Rattle.journal_file.specs.declared.fault.FileFault.TheVariants.{Failed, InUse, Bad, Memory}
use Rattle.journal_file.specs.declared.place.Place.{Place}
use Rattle.journal_file.specs.declared.place.Place.TheVariants as place
use Rattle.journal_file.specs.Standing.{IsResumed}
use Rattle.journal_file.specs.Store.{HasLength}

-- no newline is among the bytes, where they are known
abbrev pub HasNoLine : Option (List ℕ) → Type 0
HasNoLine None = Unit {0}
HasNoLine (Some text) = IsWithinLine text

-- a newline is among the bytes, where they are known
abbrev pub HasLine : Option (List ℕ) → Type 0
HasLine None = Unit {0}
HasLine (Some text) = IsWithinLine text → ⊥

-- where the whole lines end of so many bytes, of which so many are torn, behind so many entries
abbrev pub IsEnd : ℕ → ℕ → ℕ → Place → Type 0
IsEnd entries size torn place.Unread = ⊥
IsEnd entries size torn (place.NoLine n) = ⊥
IsEnd entries size torn (place.Resumed count end behind) =
    (count ≡ entries) × (behind ≡ torn) × (end + torn ≡ size)
IsEnd entries size torn place.Whole = ⊥
IsEnd entries size torn place.Failed = ⊥

-- the bytes, where they are known, are a legal journal of these entries, with so many torn bytes behind its whole
-- lines, which end here
abbrev pub IsJournalTo : Option (List ℕ) → Config → List Entry → ℕ → ℕ → Type 0
IsJournalTo None c es end torn = Unit {0}
IsJournalTo (Some text) c es end torn = (front : List ℕ) × IsResumed c text front es torn × (length front ≡ end)

-- the whole history of a scheduler is what a legal journal stands for, and all of it is handed over
abbrev pub ContinuesTo : Option (List ℕ) → Machine → ℕ → ℕ → Type 0
ContinuesTo known m end torn = IsJournalTo known m.config m.history end torn × (m.handed ≡ length m.history)

-- what is found: no whole line, or a scheduler that continues behind a legal journal of so many entries
abbrev pub IsFound : Option (List ℕ) → Option Machine → Place → Type 0
IsFound known None place.Unread = ⊥
IsFound known None (place.NoLine n) = HasLength known n × HasNoLine known
IsFound known None (place.Resumed entries end torn) = ⊥
IsFound known None place.Whole = ⊥
IsFound known None place.Failed = ⊥
IsFound known (Some m) place.Unread = ⊥
IsFound known (Some m) (place.NoLine n) = ⊥
IsFound known (Some m) (place.Resumed entries end torn) = ContinuesTo known m end torn × (entries ≡ length m.history)
IsFound known (Some m) place.Whole = ⊥
IsFound known (Some m) place.Failed = ⊥

-- there are more bytes or entries than can be read
abbrev pub IsTooMuch : Option (List ℕ) → Type 0
IsTooMuch None = Unit {0}
IsTooMuch (Some text) = (left : Option (List ℕ)) × StopsJournal (Some text) left TooLong

-- why nothing is found: a read fails, or there is too much of it; a line of a file that has one is bad, and no line
-- before it is; or memory runs out
abbrev pub StopsFile : Option (List ℕ) → Bool → FileFault → Type 0
StopsFile known may_misread Failed = (may_misread ≡ true) ⊎ IsTooMuch known
StopsFile known may_misread InUse = ⊥
StopsFile known may_misread (Bad n) = HasLine known × ((left : Option (List ℕ)) × Resumes known left (resumed.Bad n))
StopsFile known may_misread Memory = Unit {0}
