-- What is read again of the text of a journal.
use Rattle.std.specs.Prelude.{◌≡◌, ℕ, ◌+◌, ◌≤◌, List, [], ◌∷◌, ◌++◌, length, Some}
use Rattle.std.specs.List.{AllByRecursion}
use Rattle.std.specs.Str.{IsUtf8}
use Rattle.minislots.specs.declared.config.Config.{Config}
use Rattle.sched_calls.specs.declared.reply.Entry.{Entry}
use Rattle.text_stream.specs.declared.TheConstants.{NEWLINE, MAX_LINE}
use Rattle.text_stream.specs.Lines.{IsWithinLine}
use Rattle.history_writing.specs.Fits.{EntryFits}
use Rattle.history_reading.specs.Recorded.{entry_in}
use Rattle.history_writing.specs.Journal.{opening_line, entry_line, journal_text}
use Rattle.journal_entries.specs.Standing.{StandFor, ended_lines}
use Rattle.laws.specs.LawfulHistory.{IsLawfulHistory, IsCallOfTypes}

-- The line that is written of an entry is this one and a newline: it is UTF-8, no newline is in it, and it is that
-- entry
pub record IsLineOf (e : Entry) (line : List ℕ) : Type 0 where
  pub written : entry_line e ≡ line ++ NEWLINE ∷ []
  pub within : IsWithinLine line
  pub utf8 : IsUtf8 line
  pub read : entry_in line ≡ Some e

-- each entry whose numbers fit has such a line
abbrev pub IsEntryLine : Type 0
IsEntryLine = (e : Entry) → EntryFits e → (line : List ℕ) × IsLineOf e line

-- The numbers of an entry fit the types of their fields, and its line is none too long to be read
pub record HasReadableLine (e : Entry) : Type 0 where
  pub fits : EntryFits e
  pub short : length (entry_line e) ≤ MAX_LINE + 1

-- The line of the configuration is none too long to be read, and those of the entries are readable
pub record HasReadableLines (c : Config) (es : List Entry) : Type 0 where
  pub opening : length (opening_line c) ≤ MAX_LINE + 1
  pub entries : AllByRecursion HasReadableLine es

-- so it is in each history that a scheduler may have, where the numbers of the calls fit: its replies follow from them
abbrev pub IsHistoryReadable : Type 0
IsHistoryReadable = (c : Config) (es : List Entry) → IsLawfulHistory c es → AllByRecursion IsCallOfTypes es
    → HasReadableLines c es

-- The text of a journal is these lines, each with its newline, and they stand for its configuration and its entries
pub record IsTextOf (c : Config) (es : List Entry) (lines : List (List ℕ)) : Type 0 where
  pub text : journal_text c es ≡ ended_lines lines
  pub within : AllByRecursion IsWithinLine lines
  pub stand : StandFor lines c es

-- so does that of each such history
abbrev pub IsJournalAgain : Type 0
IsJournalAgain = (c : Config) (es : List Entry) → IsLawfulHistory c es → AllByRecursion IsCallOfTypes es
    → (lines : List (List ℕ)) × IsTextOf c es lines
