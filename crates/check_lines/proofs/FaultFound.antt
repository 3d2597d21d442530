-- What is found is the fault that a text has.
use Rattle.std.proofs.Common.{◌≡◌, true, false, None, Result, Ok, Err, inl, inr, sym, ap, ◌∙◌}
use Rattle.std.specs.Prelude.{◌⊎◌, IfOk, IfErr}
use Rattle.text_stream.specs.declared.fault.TextFault.{TextFault}
use Rattle.text_stream.specs.declared.fault.TextFault.TheVariants.{Input, Memory}
use Rattle.text_stream.proofs.TextTold.{IsTold}
use Rattle.check_lines.specs.declared.finding.Finding.{Finding}
use Rattle.check_lines.specs.declared.finding.Finding.TheVariants.{Fault}
use Rattle.check_lines.specs.Finding.{fault_found}
use Rattle.check_lines.specs.Found.{fault_in}

-- a value was refused for no fault
refused : {A : Type 0} (x : A) (fault : TextFault) → ◌≡◌ {A = Result A TextFault} (Ok x) (Err fault) → ⊥
refused x fault e = cc

-- the fault of a text is found, unless the machine failed
pub fault-found : {A : Type 0} (fault : TextFault) (outcome : Result A TextFault) (r : Result Finding TextFault)
    → IsTold fault outcome → IfOk r (λ f. f ≡ Fault fault)
    → (fault ≡ Input → r ≡ Err fault) → (fault ≡ Memory → r ≡ Err fault)
    → IfOk r (λ f. fault_found f ≡ fault_in outcome)
fault-found fault outcome (Err e) told is input memory = tt
fault-found fault outcome (Ok f) (inl e) is input memory = absurd (refused f fault (input e))
fault-found fault outcome (Ok f) (inr (inl e)) is input memory = absurd (refused f fault (memory e))
fault-found fault outcome (Ok f) (inr (inr e)) is input memory = ap fault_found is ∙ sym (ap fault_in e)

-- where there is a value, no fault is found
pub none-found : {A : Type 0} (value : A) (outcome : Result A TextFault) → outcome ≡ Ok value → None ≡ fault_in outcome
none-found value outcome e = sym (ap fault_in e)

no_truth : false ≡ true → ⊥
no_truth e = cc

-- where no read failed, only lack of memory is told
pub only-memory : (fault : TextFault) (r : Result Finding TextFault)
    → IfErr r (λ e. (e ≡ fault) × ((e ≡ Input) ⊎ (e ≡ Memory))) → (fault ≡ Input → false ≡ true)
    → IfErr r (λ e. e ≡ Memory)
only-memory fault (Ok f) why never = tt
only-memory fault (Err e) (same, inr is) never = is
only-memory fault (Err e) (same, inl is) never = absurd (no_truth (never (sym same ∙ is)))
