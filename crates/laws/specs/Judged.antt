-- A text that every audit judges legal.
use Rattle.std.specs.Prelude.{◌≡◌, ℕ, Bool, true, List, Option, Some}
use Rattle.text_stream.specs.declared.run_fault.RunFault.{RunFault}
use Rattle.audit_command.specs.declared.form.AuditForm.{AuditForm}
use Rattle.audit_command.specs.Verdict.{Audited, StopsAudit}
use Rattle.text_stream.specs.declared.fault.TextFault.TheVariants.{Input, TooLong, NotJson, Shape, Config, Memory}
use Rattle.text_stream.specs.declared.fault.TextFault.TheVariants.{Output}
use Rattle.text_stream.specs.declared.run_fault.RunFault.TheVariants.{Text, Threads}

-- a fault of the machine, which no text has
abbrev pub IsOfMachine : RunFault → Type 0
IsOfMachine (Text Input) = Unit {0}
IsOfMachine (Text TooLong) = ⊥
IsOfMachine (Text NotJson) = ⊥
IsOfMachine (Text (Shape n)) = ⊥
IsOfMachine (Text (Config field)) = ⊥
IsOfMachine (Text Memory) = Unit {0}
IsOfMachine (Text Output) = Unit {0}
IsOfMachine Threads = ⊥

-- each audit of the text answers that it is legal, and none ends by a fault of the text
pub record IsJudgedLegal (text : List ℕ) : Type 0 where
  pub legal : (form : AuditForm) (left before after : Option (List ℕ)) (legal : Bool)
      → Audited form (Some text) left before after legal → legal ≡ true
  pub stops : (left : Option (List ℕ)) (fault : RunFault) → StopsAudit (Some text) left fault → IsOfMachine fault
