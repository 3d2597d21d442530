-- What an audit reads and writes.
use Rattle.std.specs.Prelude.{◌≡◌, ◌↔◌, ◌++◌, ℕ, Bool, true, false, List, [], length, codes, Option, Ok}
use Rattle.std.specs.Io.KnownBytes.{Appends}
use Rattle.minislots.specs.declared.config.Config.{Config as Configuration}
use Rattle.sched_calls.specs.declared.reply.Entry.{Entry}
use Rattle.sched_history.specs.History.{IsLegal}
use Rattle.sched_history.specs.Audit.{IsFirstIllegal}
use Rattle.history_reading.specs.Recorded.{History, GivesHistory, StopsHistory}
use Rattle.audit_command.specs.declared.audit.Verdict.{Verdict}
use Rattle.audit_command.specs.declared.audit.Verdict.TheVariants.{Legal, Illegal}
use Rattle.audit_command.specs.declared.form.AuditForm.{AuditForm}
use Rattle.audit_command.specs.declared.form.AuditForm.TheVariants.{Line, Explained, Json}
use Rattle.audit_command.specs.VerdictJson.{legal_json, illegal_json}
use Rattle.text_stream.specs.declared.run_fault.RunFault.{RunFault}
use Rattle.sched_lines.specs.Line.{number_line}
use Rattle.text_stream.specs.declared.fault.TextFault.TheVariants.{Input, TooLong, NotJson, Shape, Config, Memory}
use Rattle.text_stream.specs.declared.fault.TextFault.TheVariants.{Output}
use Rattle.text_stream.specs.declared.run_fault.RunFault.TheVariants.{Text, Threads}

-- a history is legal and has so many entries, or its first entry that may not stand there is this one
abbrev pub IsVerdict : Configuration → List Entry → Verdict → Type 0
IsVerdict c h (Legal n) = IsLegal c h × (n ≡ length h)
IsVerdict c h (Illegal i) = IsFirstIllegal c h i

-- whether it is the verdict on a legal history
abbrev pub is_legal : Verdict → Bool
is_legal (Legal n) = true
is_legal (Illegal i) = false

-- the verdict on a legal history
abbrev pub legal_text : AuditForm → ℕ → List ℕ
legal_text Line n = number_line (codes "legal") n
legal_text Explained n = number_line (codes "legal") n
legal_text Json n = legal_json n

-- the verdict on another one
abbrev pub illegal_text : AuditForm → ℕ → List ℕ
illegal_text Line i = number_line (codes "illegal") i
illegal_text Explained i = number_line (codes "illegal") i
illegal_text Json i = illegal_json i

-- the line of a verdict
abbrev pub verdict_line : AuditForm → Verdict → List ℕ
verdict_line form (Legal n) = legal_text form n
verdict_line form (Illegal i) = illegal_text form i

-- behind the verdict on a legal history there are no words, and behind another one only where they are asked for
abbrev pub IsQuiet : AuditForm → Verdict → List ℕ → Type 0
IsQuiet Line verdict words = words ≡ []
IsQuiet Json verdict words = words ≡ []
IsQuiet Explained (Legal n) words = words ≡ []
IsQuiet Explained (Illegal i) words = Unit {0}

-- the reader's bytes are a history, and the line of the verdict on it was written in this form, with words behind it
-- where they are asked for and it is illegal, and nothing else; the answer is whether it is legal
pub record Audited (form : AuditForm) (unread left written_before written_after : Option (List ℕ)) (legal : Bool)
    : Type 0 where
  pub history : History
  pub read : GivesHistory unread left (Ok history)
  pub verdict : Verdict
  pub verdict_is : IsVerdict history.config history.entries verdict
  pub words : List ℕ
  pub quiet : IsQuiet form verdict words
  pub written : Appends written_before written_after (verdict_line form verdict ++ words)
  pub legal_is : (legal ≡ true) ↔ IsLegal history.config history.entries

-- why an audit ends: there is no history, or a write was tried after a whole one was read; where
-- memory runs out nothing more is told
abbrev pub StopsAudit : Option (List ℕ) → Option (List ℕ) → RunFault → Type 0
StopsAudit unread left (Text Input) = StopsHistory unread left Input
StopsAudit unread left (Text TooLong) = StopsHistory unread left TooLong
StopsAudit unread left (Text NotJson) = StopsHistory unread left NotJson
StopsAudit unread left (Text (Shape n)) = StopsHistory unread left (Shape n)
StopsAudit unread left (Text (Config field)) = StopsHistory unread left (Config field)
StopsAudit unread left (Text Memory) = Unit {0}
StopsAudit unread left (Text Output) = (history : History) × GivesHistory unread left (Ok history)
StopsAudit unread left Threads = ⊥
