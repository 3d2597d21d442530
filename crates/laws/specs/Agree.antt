-- That what is found in a file is what the command for such a file answers.
use Rattle.std.specs.Prelude.{◌≡◌, ℕ, Bool, List, Option, Some, None, Ok}
use Rattle.script_reading.specs.StormScript as scripts
use Rattle.script_reading.specs.StormScript.{GivesStorm}
use Rattle.text_stream.specs.declared.run_fault.RunFault.{RunFault}
use Rattle.script_reading.specs.Stops.{Stops}
use Rattle.run_command.specs.declared.output.RunOutput.{RunOutput}
use Rattle.run_command.specs.Run.{Ran}
use Rattle.sched_storm.specs.StormRun.{StopsStorm}
use Rattle.audit_command.specs.declared.form.AuditForm.{AuditForm}
use Rattle.audit_command.specs.Verdict.{Audited, StopsAudit}
use Rattle.json_fields.specs.declared.forms.Kind.TheVariants.{Script, Storm, History}
use Rattle.check_lines.specs.DocumentKind.{kind_of}
use Rattle.text_stream.specs.declared.fault.TextFault.TheVariants.{Input, TooLong, NotJson, Shape, Config, Memory}
use Rattle.text_stream.specs.declared.fault.TextFault.TheVariants.{Output}
use Rattle.text_stream.specs.declared.run_fault.RunFault.TheVariants.{Text, Threads}

-- what is found is the fault by which a command ended; where the machine failed before the input was read it may be
-- anything, and after that there is none
abbrev pub Agrees : Option RunFault → RunFault → Type 0
Agrees found (Text Input) = Unit {0}
Agrees found (Text TooLong) = found ≡ Some (Text TooLong)
Agrees found (Text NotJson) = found ≡ Some (Text NotJson)
Agrees found (Text (Shape n)) = found ≡ Some (Text (Shape n))
Agrees found (Text (Config field)) = found ≡ Some (Text (Config field))
Agrees found (Text Memory) = Unit {0}
Agrees found (Text Output) = found ≡ None
Agrees found Threads = found ≡ None

-- what is found in a text agrees with every run, storm or audit of it, by the kind of file that it seems to be: with
-- the fault by which one ends, and with none where one does not
pub record AgreesWithCommands (text : List ℕ) (found : Option RunFault) : Type 0 where
  pub run : kind_of text ≡ Script → (left : Option (List ℕ)) (fault : RunFault) → Stops (Some text) left fault
      → Agrees found fault
  pub ran : kind_of text ≡ Script → (output : RunOutput) (left before after : Option (List ℕ))
      → Ran output (Some text) left before after → found ≡ None
  pub storm : kind_of text ≡ Storm → (left : Option (List ℕ)) (fault : RunFault) → StopsStorm (Some text) left fault
      → Agrees found fault
  -- (a storm that ran has read its script)
  pub stormed : kind_of text ≡ Storm → (left : Option (List ℕ)) (storm : scripts.Storm)
      → GivesStorm (Some text) left (Ok storm) → found ≡ None
  pub audit : kind_of text ≡ History → (left : Option (List ℕ)) (fault : RunFault) → StopsAudit (Some text) left fault
      → Agrees found fault
  pub audited : kind_of text ≡ History → (form : AuditForm) (left before after : Option (List ℕ)) (legal : Bool)
      → Audited form (Some text) left before after legal → found ≡ None
