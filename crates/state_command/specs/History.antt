-- What the command reads and writes of a history.
use Rattle.std.specs.Prelude.{◌≡◌, ℕ, Bool, true, false, List, codes, Option, Ok}
use Rattle.std.specs.Io.KnownBytes.{Appends}
use Rattle.minislots.specs.declared.config.Config.{Config as Configuration}
use Rattle.sched_calls.specs.declared.reply.Entry.{Entry}
use Rattle.sched_history.specs.Audit.{IsFirstIllegal}
use Rattle.sched_history.specs.History.{IsLegal}
use Rattle.sched_lines.specs.Line.{number_line}
use Rattle.history_reading.specs.Recorded.{History, GivesHistory, StopsHistory}
use Rattle.text_stream.specs.declared.fault.TextFault.TheVariants.{Input, TooLong, NotJson, Shape, Config, Memory}
use Rattle.text_stream.specs.declared.fault.TextFault.TheVariants.{Output}
use Rattle.text_stream.specs.declared.run_fault.RunFault.{RunFault}
use Rattle.text_stream.specs.declared.run_fault.RunFault.TheVariants.{Text, Threads}
use Rattle.state_command.specs.declared.form.StateForm.{StateForm}
use Rattle.state_command.specs.declared.history.Taken.{Taken}
use Rattle.state_command.specs.declared.history.Taken.TheVariants.{Legal, Illegal}
use Rattle.state_command.specs.States.{ShowsAfter}

-- an auditor has taken the entries, which are legal, or this one is the first that may not follow those before it
abbrev pub IsTaken : Configuration → List Entry → Taken → Type 0
IsTaken c es (Legal auditor) = IsLegal c es × (auditor ≡ record { config = c; history = es })
IsTaken c es (Illegal i) = IsFirstIllegal c es i

-- The history is legal, and the state after it was shown
pub record IsLegalHistory (form : StateForm) (h : History) (before after : Option (List ℕ)) : Type 0 where
  pub legal : IsLegal h.config h.entries
  pub shown : ShowsAfter form h.config h.entries before after

-- An entry is the first that may not stand there, and the line of that was written
pub record IsIllegalHistory (h : History) (before after : Option (List ℕ)) : Type 0 where
  pub index : ℕ
  pub first : IsFirstIllegal h.config h.entries index
  pub written : Appends before after (number_line (codes "illegal") index)

-- what was written of a history, by whether it is legal
abbrev pub IsWrittenOf : StateForm → History → Option (List ℕ) → Option (List ℕ) → Bool → Type 0
IsWrittenOf form h before after true = IsLegalHistory form h before after
IsWrittenOf form h before after false = IsIllegalHistory h before after

-- The reader's bytes are a history, and what is to be written of it was, and nothing else
pub record StatesHistory (form : StateForm) (unread left before after : Option (List ℕ)) (legal : Bool) : Type 0 where
  pub history : History
  pub read : GivesHistory unread left (Ok history)
  pub written : IsWrittenOf form history before after legal

-- why the command ends: there is no history, or a write was tried after a whole one was read; where memory runs out
-- nothing more is told
abbrev pub StopsHistoryState : Option (List ℕ) → Option (List ℕ) → RunFault → Type 0
StopsHistoryState unread left (Text Input) = StopsHistory unread left Input
StopsHistoryState unread left (Text TooLong) = StopsHistory unread left TooLong
StopsHistoryState unread left (Text NotJson) = StopsHistory unread left NotJson
StopsHistoryState unread left (Text (Shape n)) = StopsHistory unread left (Shape n)
StopsHistoryState unread left (Text (Config field)) = StopsHistory unread left (Config field)
StopsHistoryState unread left (Text Memory) = Unit {0}
StopsHistoryState unread left (Text Output) = (history : History) × GivesHistory unread left (Ok history)
StopsHistoryState unread left Threads = ⊥
