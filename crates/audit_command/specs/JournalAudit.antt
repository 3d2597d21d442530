-- What the audit of a journal reads and writes.
use Rattle.std.specs.Prelude.{◌≡◌, ◌++◌, ℕ, List, [], length, codes, Option}
use Rattle.std.specs.Io.KnownBytes.{Appends}
use Rattle.minislots.specs.declared.config.Config.{Config as Configuration}
use Rattle.sched_calls.specs.declared.reply.Entry.{Entry}
use Rattle.sched_lines.specs.Line.{number_line}
use Rattle.text_stream.specs.declared.run_fault.RunFault.{RunFault}
use Rattle.text_stream.specs.declared.fault.TextFault.TheVariants.{Input, TooLong, NotJson, Shape, Config, Memory}
use Rattle.text_stream.specs.declared.fault.TextFault.TheVariants.{Output}
use Rattle.text_stream.specs.declared.run_fault.RunFault.TheVariants.{Text, Threads}
use Rattle.journal_entries.specs.Judging.{FindsLegal, FindsIllegal, FindsBad, StopsJournal}
use Rattle.audit_command.specs.declared.journal.JournalEnd.{JournalEnd}
use Rattle.audit_command.specs.declared.journal.JournalEnd.TheVariants.{Legal, Illegal, Bad}
use Rattle.audit_command.specs.declared.form.JournalForm.{JournalForm}
use Rattle.audit_command.specs.declared.form.JournalForm.TheVariants.{Line, Explained, Json}
use Rattle.audit_command.specs.VerdictJson.{illegal_json, legal_journal_json}

-- the verdict on a legal journal, which has so many entries, and behind its last newline so many bytes
abbrev pub legal_journal_text : JournalForm → ℕ → ℕ → List ℕ
legal_journal_text Line entries torn = number_line (codes "legal") entries
legal_journal_text Explained entries torn = number_line (codes "legal") entries
legal_journal_text Json entries torn = legal_journal_json entries torn

-- the verdict on another one
abbrev pub illegal_journal_text : JournalForm → ℕ → List ℕ
illegal_journal_text Line index = number_line (codes "illegal") index
illegal_journal_text Explained index = number_line (codes "illegal") index
illegal_journal_text Json index = illegal_json index

-- behind the verdict on an illegal journal there are words only where they are asked for
abbrev pub IsQuietJournal : JournalForm → List ℕ → Type 0
IsQuietJournal Line words = words ≡ []
IsQuietJournal Json words = words ≡ []
IsQuietJournal Explained words = Unit {0}

-- The journal is legal, and the line of that was written, with the number of its entries
pub record IsLegalJournal (form : JournalForm) (unread left before after : Option (List ℕ)) (torn : ℕ)
    : Type 0 where
  pub config : Configuration
  pub entries : List Entry
  pub found : FindsLegal unread left config entries torn
  pub written : Appends before after (legal_journal_text form (length entries) torn)

-- An entry of the journal is the first that may not stand there, and the line of that was written, with words behind it
-- where they are asked for
pub record IsIllegalJournal (form : JournalForm) (unread left before after : Option (List ℕ)) : Type 0 where
  pub index : ℕ
  pub found : FindsIllegal unread left index
  pub words : List ℕ
  pub quiet : IsQuietJournal form words
  pub written : Appends before after (illegal_journal_text form index ++ words)

-- what was found in a journal was written in this form, and nothing else; nothing, where a line stands for nothing
abbrev pub AuditedJournal : JournalForm → Option (List ℕ) → Option (List ℕ) → Option (List ℕ) → Option (List ℕ)
    → JournalEnd → Type 0
AuditedJournal form unread left before after (Legal torn) = IsLegalJournal form unread left before after torn
AuditedJournal form unread left before after Illegal = IsIllegalJournal form unread left before after
AuditedJournal form unread left before after (Bad n) = FindsBad unread left n × Appends before after []

-- why an audit ends: the journal is not read to its end, or memory or a write failed
abbrev pub StopsJournalAudit : Option (List ℕ) → Option (List ℕ) → RunFault → Type 0
StopsJournalAudit unread left (Text Input) = StopsJournal unread left Input
StopsJournalAudit unread left (Text TooLong) = StopsJournal unread left TooLong
StopsJournalAudit unread left (Text NotJson) = ⊥
StopsJournalAudit unread left (Text (Shape n)) = ⊥
StopsJournalAudit unread left (Text (Config field)) = ⊥
StopsJournalAudit unread left (Text Memory) = Unit {0}
StopsJournalAudit unread left (Text Output) = Unit {0}
StopsJournalAudit unread left Threads = ⊥
