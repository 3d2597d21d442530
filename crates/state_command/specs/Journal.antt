-- What the command reads and writes of a journal.
use Rattle.std.specs.Prelude.{◌≡◌, ◌⊎◌, ℕ, List, [], codes, Option}
use Rattle.std.specs.Io.KnownBytes.{Appends}
use Rattle.minislots.specs.declared.config.Config.{Config as Configuration}
use Rattle.sched_calls.specs.declared.reply.Entry.{Entry}
use Rattle.text_stream.specs.declared.fault.TextFault.TheVariants.{Memory, Output}
use Rattle.text_stream.specs.declared.run_fault.RunFault.{RunFault}
use Rattle.text_stream.specs.declared.run_fault.RunFault.TheVariants.{Text}
use Rattle.sched_lines.specs.Line.{number_line}
use Rattle.journal_entries.specs.declared.judging.Judged.{Judged}
use Rattle.journal_entries.specs.declared.judging.Judged.TheVariants as judged
use Rattle.journal_entries.specs.Judging.{FindsLegal, FindsIllegal, FindsBad}
use Rattle.state_command.specs.declared.form.StateEnd.{StateEnd}
use Rattle.state_command.specs.declared.form.StateEnd.TheVariants.{Written, Illegal, Bad, Segment}
use Rattle.state_command.specs.declared.form.StateForm.{StateForm}
use Rattle.state_command.specs.States.{ShowsAfter}

-- an auditor of legal entries has this configuration
abbrev pub IsUnder : Configuration → Judged → Type 0
IsUnder c (judged.Legal auditor torn) = auditor.config ≡ c
IsUnder c (judged.Illegal i entries) = Unit {0}
IsUnder c (judged.Bad line) = Unit {0}

-- memory has run out, or a write has failed
abbrev pub IsWriting : RunFault → Type 0
IsWriting e = (e ≡ Text Memory) ⊎ (e ≡ Text Output)

-- The journal is legal, and the state after its entries was shown
pub record IsLegalJournal (form : StateForm) (unread left before after : Option (List ℕ)) (torn : ℕ) : Type 0 where
  pub config : Configuration
  pub entries : List Entry
  pub found : FindsLegal unread left config entries torn
  pub shown : ShowsAfter form config entries before after

-- An entry of the journal is the first that may not stand there, and the line of that was written
pub record IsIllegalJournal (unread left before after : Option (List ℕ)) : Type 0 where
  pub index : ℕ
  pub found : FindsIllegal unread left index
  pub written : Appends before after (number_line (codes "illegal") index)

-- what was found in a journal without a state, and written
abbrev pub StatesJournal : StateForm → Option (List ℕ) → Option (List ℕ) → Option (List ℕ) → Option (List ℕ)
    → StateEnd → Type 0
StatesJournal form unread left before after (Written torn) = IsLegalJournal form unread left before after torn
StatesJournal form unread left before after Illegal = IsIllegalJournal unread left before after
StatesJournal form unread left before after (Bad n) = FindsBad unread left n × Appends before after []
StatesJournal form unread left before after Segment = ⊥
