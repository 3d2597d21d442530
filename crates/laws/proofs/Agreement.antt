-- What a check finds in a text is what the command for such a file answers.
use Rattle.std.proofs.Common.{◌≡◌, ℕ, List, Option, Some, None, Result, Ok, inl, inr, ap, ◌∙◌, subst}
use Rattle.std.specs.Prelude.{option_map}
use Rattle.text_stream.specs.declared.fault.TextFault.{TextFault}
use Rattle.script_reading.specs.Outcome.{outcome_of}
use Rattle.script_reading.specs.StormScript.{storm_outcome}
use Rattle.history_reading.specs.Recorded.{history_outcome}
use Rattle.text_stream.proofs.TextTold.{all_bytes, IsTold, IsOfText}
use Rattle.script_reading.proofs.Told.{script-told, script-stands, storm-told, storm-has}
use Rattle.text_stream.specs.declared.run_fault.RunFault.{RunFault}
use Rattle.script_reading.specs.Stops.{Stops}
use Rattle.sched_storm.specs.StormRun.{StopsStorm}
use Rattle.audit_command.specs.Verdict.{StopsAudit}
use Rattle.json_fields.specs.declared.forms.Kind.{Kind}
use Rattle.json_fields.specs.declared.forms.Kind.TheVariants.{Script, Storm, History}
use Rattle.check_lines.specs.DocumentKind.{kind_of}
use Rattle.check_lines.specs.Found.{fault_in, fault_as, fault_of}
use Rattle.check_lines.specs.declared.form.CheckForm.{CheckForm}
use Rattle.check_lines.specs.Document.{Checks}
use Rattle.laws.specs.Agree.{Agrees, AgreesWithCommands}
use Rattle.check_lines.proofs.HistoryTold.{history-told, history-has}
use Rattle.text_stream.specs.declared.fault.TextFault.TheVariants.{Input, TooLong, NotJson, Shape, Config, Memory}
use Rattle.text_stream.specs.declared.fault.TextFault.TheVariants.{Output}
use Rattle.text_stream.specs.declared.run_fault.RunFault.TheVariants.{Text, Threads}

-- the fault of a command that an outcome is
abbrev found_of : {A : Type 0} → Result A TextFault → Option RunFault
found_of outcome = option_map Text (fault_in outcome)

module _ {A : Type 0} (found : Option RunFault) (outcome : Result A TextFault) (is : found ≡ found_of outcome) where
  -- the fault that is told is found
  told : (fault : TextFault) → IsOfText fault → IsTold fault outcome → found ≡ Some (Text fault)
  told fault of_text (inl e) = absurd (subst IsOfText e of_text)
  told fault of_text (inr (inl e)) = absurd (subst IsOfText e of_text)
  told fault of_text (inr (inr e)) = is ∙ ap (λ (o : Result A TextFault). found_of o) e

  -- where there is a value, nothing is found
  stands : (value : A) → outcome ≡ Ok value → found ≡ None
  stands value e = is ∙ ap (λ (o : Result A TextFault). found_of o) e

-- a run agrees with what is found in a script
run-agrees : (text : List ℕ) (rest : Option (List ℕ)) (found : Option RunFault) → found ≡ found_of (outcome_of text)
    → (fault : RunFault) → Stops (Some text) rest fault → Agrees found fault
run-agrees text rest found is (Text Input) stops = tt
run-agrees text rest found is (Text TooLong) stops =
    told found _ is TooLong tt (script-told text rest TooLong stops)
run-agrees text rest found is (Text NotJson) stops =
    told found _ is NotJson tt (script-told text rest NotJson stops)
run-agrees text rest found is (Text (Shape n)) stops =
    told found _ is (Shape n) tt (script-told text rest (Shape n) stops)
run-agrees text rest found is (Text (Config field)) stops =
    told found _ is (Config field) tt (script-told text rest (Config field) stops)
run-agrees text rest found is (Text Memory) stops = tt
run-agrees text rest found is (Text Output) stops = stands found _ is stops.0 (script-stands text rest stops.0 stops.1)
run-agrees text rest found is Threads stops = absurd stops

-- a storm agrees with what is found in its script
storm-agrees : (text : List ℕ) (rest : Option (List ℕ)) (found : Option RunFault)
    → found ≡ found_of (storm_outcome text) → (fault : RunFault) → StopsStorm (Some text) rest fault
    → Agrees found fault
storm-agrees text rest found is (Text Input) stops = tt
storm-agrees text rest found is (Text TooLong) stops =
    told found _ is TooLong tt (storm-told text rest TooLong stops)
storm-agrees text rest found is (Text NotJson) stops =
    told found _ is NotJson tt (storm-told text rest NotJson stops)
storm-agrees text rest found is (Text (Shape n)) stops =
    told found _ is (Shape n) tt (storm-told text rest (Shape n) stops)
storm-agrees text rest found is (Text (Config field)) stops =
    told found _ is (Config field) tt (storm-told text rest (Config field) stops)
storm-agrees text rest found is (Text Memory) stops = tt
storm-agrees text rest found is (Text Output) stops =
    stands found _ is stops.0 (storm-has text rest (Ok stops.0) stops.1)
storm-agrees text rest found is Threads stops =
    stands found _ is stops.0 (storm-has text rest (Ok stops.0) stops.1)

-- an audit agrees with what is found in a history
audit-agrees : (text : List ℕ) (rest : Option (List ℕ)) (found : Option RunFault)
    → found ≡ found_of (history_outcome text) → (fault : RunFault) → StopsAudit (Some text) rest fault
    → Agrees found fault
audit-agrees text rest found is (Text Input) stops = tt
audit-agrees text rest found is (Text TooLong) stops =
    told found _ is TooLong tt (history-told text rest TooLong stops)
audit-agrees text rest found is (Text NotJson) stops =
    told found _ is NotJson tt (history-told text rest NotJson stops)
audit-agrees text rest found is (Text (Shape n)) stops =
    told found _ is (Shape n) tt (history-told text rest (Shape n) stops)
audit-agrees text rest found is (Text (Config field)) stops =
    told found _ is (Config field) tt (history-told text rest (Config field) stops)
audit-agrees text rest found is (Text Memory) stops = tt
audit-agrees text rest found is (Text Output) stops =
    stands found _ is stops.0 (history-has text rest (Ok stops.0) stops.1)
audit-agrees text rest found is Threads stops = absurd stops

module _ (form : CheckForm) (text : List ℕ) (left before after : Option (List ℕ)) (found : Option RunFault)
    (checks : Checks form (Some text) left before after found) where
  -- what is found in the text as a file of its kind
  as_kind : (kind : Kind) → kind_of text ≡ kind → found ≡ option_map Text (fault_as kind text)
  as_kind kind e =
      checks.found_is
      ∙ ap (λ (bytes : List ℕ). option_map Text (fault_of bytes)) (all_bytes text left checks.bytes checks.all)
      ∙ ap (λ (k : Kind). option_map Text (fault_as k text)) e

  -- with every run, storm and audit
  pub agreed : AgreesWithCommands text found
  agreed = record {
    run = λ kind rest fault stops. run-agrees text rest found (as_kind Script kind) fault stops;
    ran = λ kind output rest b a ran.
        stands found _ (as_kind Script kind) ran.scenario (script-stands text rest ran.scenario ran.read);
    storm = λ kind rest fault stops. storm-agrees text rest found (as_kind Storm kind) fault stops;
    stormed = λ kind rest storm read.
        stands found _ (as_kind Storm kind) storm (storm-has text rest (Ok storm) read);
    audit = λ kind rest fault stops. audit-agrees text rest found (as_kind History kind) fault stops;
    audited = λ kind as_asked rest b a legal audited.
        stands found _ (as_kind History kind) audited.history (history-has text rest (Ok audited.history) audited.read);
  }
