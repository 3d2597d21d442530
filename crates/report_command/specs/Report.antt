-- What the report on a history reads and writes.
use Rattle.std.specs.Prelude.{◌≡◌, ℕ, Bool, true, false, List, take, codes, Option, Ok}
use Rattle.std.specs.Io.KnownBytes.{Appends}
use Rattle.minislots.specs.declared.config.Config.{Config as Configuration}
use Rattle.sched_calls.specs.declared.reply.Entry.{Entry}
use Rattle.sched_history.specs.History.{IsLegal}
use Rattle.sched_history.specs.Audit.{IsFirstIllegal}
use Rattle.sched_lines.specs.Line.{number_line}
use Rattle.history_reading.specs.Recorded.{History, GivesHistory, StopsHistory}
use Rattle.text_stream.specs.declared.run_fault.RunFault.{RunFault}
use Rattle.text_stream.specs.declared.fault.TextFault.TheVariants.{Input, TooLong, NotJson, Shape, Config, Memory}
use Rattle.text_stream.specs.declared.fault.TextFault.TheVariants.{Output}
use Rattle.text_stream.specs.declared.run_fault.RunFault.TheVariants.{Text, Threads}
use Rattle.report_command.specs.declared.form.Form.{Form}
use Rattle.sched_report.specs.Window.{Window}
use Rattle.report_command.specs.declared.range.Range.{Range}
use Rattle.report_command.specs.Range.{GoesOn, window_of}
use Rattle.report_command.specs.Form.{IsSaid}
use Rattle.report_command.specs.declared.fed.Fed.{Fed}
use Rattle.report_command.specs.declared.fed.Fed.TheVariants.{Legal, Illegal}

-- a history is legal up to the end of what is told of it, which is what the reporter tells, or its first entry that may
-- not stand there is this one, which comes before that end
abbrev pub IsFed : Configuration → Range → List Entry → Fed → Type 0
IsFed c r h (Legal reporter) = ◌≡◌ {A = Window} reporter (window_of c r h) × IsLegal c (window_of c r h).history
IsFed c r h (Illegal i) = IsFirstIllegal c h i × GoesOn c r (take i h)

-- The reader's bytes are a history that is legal up to the end of what is told of it, and the report on that in this
-- form was written, and nothing else
pub record ReportsLegal (form : Form) (r : Range) (unread left before after : Option (List ℕ)) : Type 0 where
  pub history : History
  pub read : GivesHistory unread left (Ok history)
  pub legal : IsLegal history.config (window_of history.config r history.entries).history
  pub said : IsSaid form (window_of history.config r history.entries) before after

-- The reader's bytes are a history, and the line of its first entry that may not stand there was written, which comes
-- before the end of what is told, and nothing else
pub record ReportsIllegal (r : Range) (unread left before after : Option (List ℕ)) : Type 0 where
  pub history : History
  pub read : GivesHistory unread left (Ok history)
  pub index : ℕ
  pub first : IsFirstIllegal history.config history.entries index
  pub goes_on : GoesOn history.config r (take index history.entries)
  pub written : Appends before after (number_line (codes "illegal") index)

-- what was written of a history, by whether it is legal: its report in this form, or that line
abbrev pub Reported : Form → Range → Option (List ℕ) → Option (List ℕ) → Option (List ℕ) → Option (List ℕ) → Bool
    → Type 0
Reported form r unread left before after true = ReportsLegal form r unread left before after
Reported form r unread left before after false = ReportsIllegal r unread left before after

-- why a report ends: there is no history, or a write was tried after a whole one was read; where
-- memory runs out nothing more is told
abbrev pub StopsReport : Option (List ℕ) → Option (List ℕ) → RunFault → Type 0
StopsReport unread left (Text Input) = StopsHistory unread left Input
StopsReport unread left (Text TooLong) = StopsHistory unread left TooLong
StopsReport unread left (Text NotJson) = StopsHistory unread left NotJson
StopsReport unread left (Text (Shape n)) = StopsHistory unread left (Shape n)
StopsReport unread left (Text (Config field)) = StopsHistory unread left (Config field)
StopsReport unread left (Text Memory) = Unit {0}
StopsReport unread left (Text Output) = (history : History) × GivesHistory unread left (Ok history)
StopsReport unread left Threads = ⊥
