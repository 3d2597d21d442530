-- What is answered of a journal after which a scheduler is to go on.
use Rattle.std.specs.Prelude.{◌≡◌, ℕ, ◌⊎◌, ◌++◌, List, length, Option, None, Some}
use Rattle.std.specs.List.{AllByRecursion}
use Rattle.minislots.specs.declared.config.Config.{Config as Configuration}
use Rattle.sched_calls.specs.declared.reply.Entry.{Entry}
use Rattle.sched_history.specs.History.{IsLegal}
use Rattle.sched_history.specs.Machine.{Machine}
use Rattle.text_stream.specs.Lines.{IsWithinLine}
use Rattle.text_stream.specs.declared.fault.TextFault.TheVariants.{TooLong as LongText}
use Rattle.journal_entries.specs.Standing.{StandFor, ended_lines}
use Rattle.journal_entries.specs.Journal.{FindsIllegal, StopsJournal}
use Rattle.journal_entries.specs.Judging.{FindsBad}
use Rattle.mapsched_c.specs.declared.status.TheConstants.{OK, FULL, OUT_OF_MEMORY, ILLEGAL, TOO_LONG, NO_HISTORY}

-- The bytes are whole lines, each with its newline, and others behind them without one. The lines stand for this legal
-- history, and have so many bytes
pub record StandsFor (journal : List ℕ) (c : Configuration) (h : List Entry) (bytes : ℕ) : Type 0 where
  pub lines : List (List ℕ)
  pub torn : List ℕ
  pub journal_is : journal ≡ ended_lines lines ++ torn
  pub within : AllByRecursion IsWithinLine lines
  pub is_torn : IsWithinLine torn
  pub stand : StandFor lines c h
  pub legal : IsLegal c h
  pub bytes_are : bytes ≡ length (ended_lines lines)

-- what a scheduler is that goes on after a history: it is its whole history, all of it handed over
abbrev pub going_on : Configuration → List Entry → Machine
going_on c h = record { config = c; history = h; handed = length h }

-- the handle has the scheduler that goes on after the history of the journal's whole lines, whose bytes are told
abbrev pub GoesOn : List ℕ → Option Machine → ℕ → Type 0
GoesOn journal new told =
    (c : Configuration) × (h : List Entry) × StandsFor journal c h told × (new ≡ Some (going_on c h))

-- the first entry of a journal that may not follow those before it
abbrev pub HasIllegal : List ℕ → ℕ → Type 0
HasIllegal journal told = (left : Option (List ℕ)) × FindsIllegal (Some journal) left told

-- the first line of a journal that stands for nothing
abbrev pub HasBadLine : List ℕ → ℕ → Type 0
HasBadLine journal told = (left : Option (List ℕ)) × FindsBad (Some journal) left told

-- a journal of more entries than a whole history may have, or of a line of more bytes than 64 bits can count
abbrev pub IsTooLong : List ℕ → Type 0
IsTooLong journal = (left : Option (List ℕ)) × StopsJournal (Some journal) left LongText

-- why no scheduler goes on after a journal
abbrev pub StopsThere : List ℕ → ℕ → ℕ → ℕ → Type 0
StopsThere journal status untold told = ((status ≡ ILLEGAL) × HasIllegal journal told)
    ⊎ (((status ≡ NO_HISTORY) × HasBadLine journal told)
    ⊎ (((status ≡ TOO_LONG) × IsTooLong journal × (told ≡ untold))
    ⊎ ((status ≡ OUT_OF_MEMORY) × (told ≡ untold))))

-- into an empty handle comes the scheduler that goes on after a journal, or it stays empty, and why; a full one stays
abbrev pub Resumes : List ℕ → Option Machine → Option Machine → ℕ → ℕ → ℕ → Type 0
Resumes journal None new status untold told = ((status ≡ OK) × GoesOn journal new told)
    ⊎ (StopsThere journal status untold told × (new ≡ None))
Resumes journal (Some m) new status untold told = (status ≡ FULL) × (new ≡ Some m) × (told ≡ untold)
