-- What the reports on the parts of a journal read and write.
use Rattle.std.specs.Prelude.{◌≡◌, ◌⊎◌, ℕ, max, List, [], ◌++◌, codes, Option, None, Some}
use Rattle.std.specs.Io.KnownBytes.{Appends}
use Rattle.minislots.specs.declared.config.Config.{Config as Configuration}
use Rattle.sched_calls.specs.declared.reply.Entry.{Entry}
use Rattle.sched_lines.specs.Line.{number_line}
use Rattle.journal_entries.specs.declared.end.EntriesEnd.{EntriesEnd}
use Rattle.journal_entries.specs.declared.end.EntriesEnd.TheVariants as ends
use Rattle.journal_entries.specs.declared.unjudged.UnjudgedEntries.{UnjudgedEntries}
use Rattle.journal_entries.specs.Journal.{FindsLegal, FindsNoEntryIn, HasNoOpening}
use Rattle.journal_entries.specs.End.{EndsIllegal}
use Rattle.journal_entries.specs.Unjudged.{HasRead}
use Rattle.report_command.specs.declared.form.Form.{Form}
use Rattle.report_command.specs.Series.{Serial, IsTellerOf, TellsEnded, TellsParts}

-- The first lines of a journal stand for the entries that were taken, and the reports on those of their parts that are
-- over were written, and nothing else
pub record IsToldSoFar (form : Form) (unread left : Option (List ℕ)) (entries : UnjudgedEntries) (s : Serial)
    (before after : Option (List ℕ)) : Type 0 where
  pub read : HasRead unread left entries s.told.config s.told.history
  pub text : List ℕ
  pub tells : IsTellerOf form s text
  pub written : Appends before after text

-- what was written of a journal whose entries ended so: the reports on its parts; or on those that are over before its
-- first illegal entry, with the line of that; or before a bad line
abbrev pub IsJournalTold : Form → ℕ → Option (List ℕ) → Option (List ℕ) → Configuration → Option (List ℕ)
    → Option (List ℕ) → EntriesEnd → Type 0
IsJournalTold form every unread left c before after (ends.Legal torn) = (es : List Entry) × (text : List ℕ)
    × FindsLegal unread left c es torn × TellsParts form c every es text × Appends before after text
IsJournalTold form every unread left c before after (ends.Illegal i) = (es : List Entry) × (text : List ℕ)
    × EndsIllegal unread left c es i × TellsEnded form c every es text
    × Appends before after (text ++ number_line (codes "illegal") i)
IsJournalTold form every unread left c before after (ends.Bad n) = (es : List Entry) × (text : List ℕ)
    × FindsNoEntryIn unread left c es n × TellsEnded form c every es text × Appends before after text

-- one turn more was told so far, or the journal to its end
abbrev pub IsTurnTold : Form → Option (List ℕ) → Option (List ℕ) → UnjudgedEntries → Serial → Serial → Option (List ℕ)
    → Option (List ℕ) → Option EntriesEnd → Type 0
IsTurnTold form unread left entries old new before after None =
    IsToldSoFar form unread left entries new before after
IsTurnTold form unread left entries old new before after (Some end) =
    IsJournalTold form old.every unread left old.told.config before after end

-- a journal has no configuration in its first line, and nothing was written; or it has one, and this was written of its
-- parts of so many milliseconds, of one at least
abbrev pub SeriesOfJournal : Form → ℕ → Option (List ℕ) → Option (List ℕ) → Option (List ℕ) → Option (List ℕ)
    → EntriesEnd → Type 0
SeriesOfJournal form every unread left before after end =
    (HasNoOpening unread left × (end ≡ ends.Bad 0) × Appends before after [])
    ⊎ ((c : Configuration) × IsJournalTold form (max every 1) unread left c before after end)
