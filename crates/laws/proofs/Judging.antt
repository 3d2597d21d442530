-- What a run wrote as its history is read again as that history, which is legal.
use Rattle.std.proofs.Common.{◌≡◌, ℕ, ◌≤◌, List, [], length, Option, Some, Ok, Err, refl}
use Rattle.std.proofs.Common.{sym}
use Rattle.std.proofs.Common.{Result, ap, ◌∙◌, subst, arith}
use Rattle.sched_history.specs.History.{IsLegal}
use Rattle.text_stream.specs.declared.fault.TextFault.{TextFault}
use Rattle.text_stream.specs.declared.input.TheConstants.{MAX_INPUT}
use Rattle.history_writing.specs.HistoryText.{history_text}
use Rattle.history_reading.specs.Recorded.{History, history_outcome, GivesHistory}
use Rattle.text_stream.proofs.TextTold.{all_bytes, too_many}
use Rattle.laws.proofs.ReadAgain.{history_outcome-text}
use Rattle.text_stream.specs.declared.run_fault.RunFault.{RunFault}
use Rattle.sched_history.specs.Answer.{recorded_entries}
use Rattle.run_command.specs.declared.output.RunOutput.TheVariants as outputs
use Rattle.run_command.specs.Run.{Ran}
use Rattle.audit_command.specs.Verdict.{StopsAudit}
use Rattle.laws.specs.Judged.{IsOfMachine, IsJudgedLegal}
use Rattle.text_stream.specs.declared.fault.TextFault.TheVariants.{Input, TooLong, NotJson, Shape, Config, Memory}
use Rattle.text_stream.specs.declared.fault.TextFault.TheVariants.{Output}
use Rattle.text_stream.specs.declared.run_fault.RunFault.TheVariants.{Text, Threads}

-- of two values that are the same answer each is the other
ok_same : {A E : Type 0} (x y : A) → ◌≡◌ {A = Result A E} (Ok x) (Ok y) → x ≡ y
ok_same x y e = cc

module _ (text : List ℕ) (history : History) (is : history_outcome text ≡ Ok history) where
  -- a reader of the text gives this history
  same_history : (left : Option (List ℕ)) (other : History) → GivesHistory (Some text) left (Ok other) → other ≡ history
  same_history left other gives =
      let found = ap history_outcome (sym (all_bytes text left gives.bytes gives.all)) ∙ gives.outcome_is in
      ok_same other history (sym found ∙ is)

  -- and no fault
  no_fault : (left : Option (List ℕ)) (fault : TextFault) → GivesHistory (Some text) left (Err fault) → ⊥
  no_fault left fault gives =
      let found = ap history_outcome (sym (all_bytes text left gives.bytes gives.all)) ∙ gives.outcome_is in
      absurd (let contra = sym found ∙ is in cc)

  -- so nothing but the machine ends an audit of it
  of_machine : length text ≤ MAX_INPUT → (left : Option (List ℕ)) (fault : RunFault) → StopsAudit (Some text) left fault
      → IsOfMachine fault
  of_machine short left (Text Input) stops = tt
  of_machine short left (Text TooLong) stops =
      absurd (let long = too_many text left stops in omega (arith, long, short))
  of_machine short left (Text NotJson) stops = no_fault left _ stops
  of_machine short left (Text (Shape n)) stops = no_fault left _ stops
  of_machine short left (Text (Config field)) stops = no_fault left _ stops
  of_machine short left (Text Memory) stops = tt
  of_machine short left (Text Output) stops = tt
  of_machine short left Threads stops = stops

  -- and where it is legal, each audit says so
  judged_text : length text ≤ MAX_INPUT → IsLegal history.config history.entries → IsJudgedLegal text
  judged_text short legal = record {
    legal = λ form left before after says audited.
        audited.legal_is.1 (subst (λ (h : History). IsLegal h.config h.entries)
        (sym (same_history left audited.history audited.read)) legal);
    stops = of_machine short;
  }

-- what a run wrote as its history is judged legal
pub judged : (unread left : Option (List ℕ)) (text : List ℕ) → Ran outputs.History unread left (Some []) (Some text)
    → length text ≤ MAX_INPUT → IsJudgedLegal text
judged unread left text ran short =
    let c = ran.scenario.config in
    let entries = recorded_entries 0 ran.scenario.calls ran.answered.answers in
    let history : History = record { config = c; entries = entries } in
    let fits = ran.answered.fits refl in
    let is : text ≡ history_text c entries = ran.answered.written in
    let long : length (history_text c entries) ≤ MAX_INPUT = subst (λ t. length t ≤ MAX_INPUT) is short in
    let again : history_outcome text ≡ Ok history =
    ap history_outcome is ∙ history_outcome-text c entries fits.config fits.lawful fits.entries long in
    judged_text text history again short ran.answered.legal
