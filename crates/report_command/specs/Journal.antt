-- What the report on a journal reads and writes.
use Rattle.std.specs.Prelude.{◌≡◌, ◌⊎◌, ℕ, true, List, [], length, codes, Option}
use Rattle.std.specs.Io.KnownBytes.{Appends}
use Rattle.minislots.specs.declared.config.Config.{Config as Configuration}
use Rattle.sched_calls.specs.declared.reply.Entry.{Entry}
use Rattle.sched_lines.specs.Line.{number_line}
use Rattle.journal_entries.specs.declared.end.EntriesEnd.{EntriesEnd}
use Rattle.journal_entries.specs.declared.end.EntriesEnd.TheVariants as ends
use Rattle.journal_entries.specs.Journal.{FindsLegal, FindsNoEntryIn, HasNoOpening}
use Rattle.report_command.specs.declared.form.Form.{Form}
use Rattle.journal_entries.specs.End.{EndsIllegal}
use Rattle.journal_entries.specs.declared.unjudged.UnjudgedEntries.{UnjudgedEntries}
use Rattle.journal_entries.specs.Unjudged.{HasRead}
use Rattle.sched_report.specs.Window.{Window}
use Rattle.report_command.specs.declared.range.Range.{Range}
use Rattle.report_command.specs.Range.{GoesOn, ticks_after, is_over, entries_until, window_of}
use Rattle.report_command.specs.Form.{IsSaid}
use Rattle.report_command.specs.declared.journal.Shown.{Shown}
use Rattle.report_command.specs.declared.journal.Shown.TheVariants as shown

-- the lines of a journal are this legal history, and what is told is over behind none of its entries; or its first ones
-- are, behind the last of which alone it is
abbrev pub FindsTold : Range → Option (List ℕ) → Option (List ℕ) → Configuration → List Entry → ℕ → Type 0
FindsTold r unread left c es torn = (FindsLegal unread left c es torn × GoesOn c r es)
    ⊎ ((torn ≡ 0) × (is_over r.to (ticks_after c es) ≡ true) × (entries_until c r.to es ≡ length es)
    × (entries : UnjudgedEntries) × HasRead unread left entries c es)

-- what ended the entries of a journal
abbrev pub EndsTold : Range → Option (List ℕ) → Option (List ℕ) → Configuration → List Entry → EntriesEnd → Type 0
EndsTold r unread left c es (ends.Legal torn) = FindsTold r unread left c es torn
EndsTold r unread left c es (ends.Illegal i) = EndsIllegal unread left c es i × GoesOn c r es
EndsTold r unread left c es (ends.Bad n) = FindsNoEntryIn unread left c es n × GoesOn c r es

-- this entry of a journal, counted from 0, may not follow those before it, behind none of which what is told is over
abbrev pub FindsIllegalTold : Range → Option (List ℕ) → Option (List ℕ) → ℕ → Type 0
FindsIllegalTold r unread left i =
    (c : Configuration) × (es : List Entry) × EndsIllegal unread left c es i × GoesOn c r es

-- this line of one, counted from 0, is no configuration, or no entry behind some after which what is told goes on
abbrev pub FindsBadTold : Range → Option (List ℕ) → Option (List ℕ) → ℕ → Type 0
FindsBadTold r unread left n = ((n ≡ 0) × HasNoOpening unread left)
    ⊎ ((c : Configuration) × (es : List Entry) × FindsNoEntryIn unread left c es n × GoesOn c r es)

-- what the lines of a journal are: where they are a legal history the reporter tells of exactly its entries
abbrev pub IsShown : Range → Option (List ℕ) → Option (List ℕ) → Shown → Type 0
IsShown r unread left (shown.Legal c reporter torn) = (c ≡ reporter.config)
    × ((h : List Entry) × ◌≡◌ {A = Window} reporter (window_of c r h) × FindsTold r unread left c h torn)
IsShown r unread left (shown.Illegal i) = FindsIllegalTold r unread left i
IsShown r unread left (shown.Bad n) = FindsBadTold r unread left n

-- The journal stands for a legal history up to the end of what is told of it, and the report on that in this form was
-- written, and nothing else
pub record ReportsJournal (form : Form) (r : Range) (unread left before after : Option (List ℕ)) (torn : ℕ)
    : Type 0 where
  pub config : Configuration
  pub entries : List Entry
  pub found : FindsTold r unread left config entries torn
  pub said : IsSaid form (window_of config r entries) before after

-- what was written of a journal: its report in this form, the line of its first illegal entry, or nothing where a line
-- is bad
abbrev pub ReportedJournal : Form → Range → Option (List ℕ) → Option (List ℕ) → Option (List ℕ) → Option (List ℕ)
    → EntriesEnd → Type 0
ReportedJournal form r unread left before after (ends.Legal torn) = ReportsJournal form r unread left before after torn
ReportedJournal form r unread left before after (ends.Illegal i) =
    FindsIllegalTold r unread left i × Appends before after (number_line (codes "illegal") i)
ReportedJournal form r unread left before after (ends.Bad n) = FindsBadTold r unread left n × Appends before after []
