-- The groups of faults that the check goes through are the faults in their order.
use Rattle.std.proofs.Common.{◌≡◌, Bool, [], ◌∷◌, ◌++◌, ◌∙◌, ap}
use Rattle.std.specs.Option.{option_or}
use Rattle.std.proofs.lemmas.List.Folds.{find-append}
use Rattle.minislots.specs.declared.config.Config.{Config}
use Rattle.sched_calls.specs.declared.spec.FlowSpec.{FlowSpec}
use Rattle.sched_calls.specs.declared.spec.FlowFault.{FlowFault}
use Rattle.sched_calls.specs.declared.spec.FlowFault.TheVariants.{Size, Priority, Burst, Grants, Reserved}
use Rattle.sched_calls.specs.FlowSpec.{has_fault, first_fault_of, first_fault, interval_faults}

-- the first fault is that of the first group which has one
pub first_fault_by_groups : (c : Config) (spec : FlowSpec)
    → first_fault c spec ≡ option_or (first_fault_of c spec (Size ∷ []))
    (option_or (first_fault_of c spec interval_faults)
    (option_or (first_fault_of c spec (Priority ∷ []))
    (option_or (first_fault_of c spec (Burst ∷ []))
    (option_or (first_fault_of c spec (Grants ∷ [])) (first_fault_of c spec (Reserved ∷ []))))))
unfolding first_fault
first_fault_by_groups c spec =
    let test : FlowFault → Bool = has_fault c spec in
    find-append test (Size ∷ [])
    (interval_faults ++ (Priority ∷ [] ++ (Burst ∷ [] ++ (Grants ∷ [] ++ (Reserved ∷ [])))))
    ∙ ap (option_or (first_fault_of c spec (Size ∷ [])))
    (find-append test interval_faults (Priority ∷ [] ++ (Burst ∷ [] ++ (Grants ∷ [] ++ (Reserved ∷ []))))
    ∙ ap (option_or (first_fault_of c spec interval_faults))
    (find-append test (Priority ∷ []) (Burst ∷ [] ++ (Grants ∷ [] ++ (Reserved ∷ [])))
    ∙ ap (option_or (first_fault_of c spec (Priority ∷ [])))
    (find-append test (Burst ∷ []) (Grants ∷ [] ++ (Reserved ∷ []))
    ∙ ap (option_or (first_fault_of c spec (Burst ∷ []))) (find-append test (Grants ∷ []) (Reserved ∷ [])))))
