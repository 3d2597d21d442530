-- A refusal is found under its number and its value alone.
use Rattle.std.proofs.Common.{◌≡◌, ℕ, ◌==◌, Bool, true, false, cond, List, [], ◌∷◌, ◌++◌, Option, Some, None, refl, sym}
use Rattle.std.proofs.Common.{ap, ap₂, ◌∙◌, subst, eqb-true}
use Rattle.std.specs.Prelude.{find, IfSome}
use Rattle.std.specs.List.{AllByRecursion}
use Rattle.sched_calls.specs.declared.spec.FlowFault.{FlowFault}
use Rattle.sched_calls.specs.declared.reply.Refusal.{Refusal}
use Rattle.sched_lines.specs.Line.{fault_number, refusal_number, refusal_value}
use Rattle.history_reading.specs.Refusals.{flow_faults, fault_with, slot_refusals, flow_refusals, refusals_of}
use Rattle.history_reading.specs.Refusals.{refusal_with, IsExactRefusal}
use Rattle.laws.proofs.RefusalNumbers.{refusal_with-number}

pick : {X : Type 0} (test : X → Bool) (P : X → Type 0) (x : X) (b : Bool) (rest : Option X) → test x ≡ b → P x
    → IfSome rest (λ y. (test y ≡ true) × P y) → IfSome (cond b (Some x) rest) (λ y. (test y ≡ true) × P y)
pick test P x true rest e p h = (e, p)
pick test P x false rest e p h = h

-- what is found passes the test, and has what all have
find-holds : {X : Type 0} (test : X → Bool) (P : X → Type 0) (xs : List X) → AllByRecursion P xs
    → IfSome (find test xs) (λ y. (test y ≡ true) × P y)
find-holds test P [] all = tt
find-holds test P (x ∷ xs) all = pick test P x (test x) (find test xs) refl all.0 (find-holds test P xs all.1)

fault_number-found : (value : ℕ) (fault : FlowFault) → fault_with value ≡ Some fault → fault_number fault ≡ value
unfolding fault_with
fault_number-found value fault is =
    let holds = subst (λ (o : Option FlowFault). IfSome o (λ f. ((fault_number f == value) ≡ true) × Unit {0})) is
    (find-holds (λ f. fault_number f == value) (λ f. Unit {0}) flow_faults
    (tt, (tt, (tt, (tt, (tt, (tt, (tt, (tt, tt))))))))) in
    eqb-true (fault_number fault) value holds.0

-- the refusal has this value, or none
abbrev HasValue : Option ℕ → Refusal → Type 0
HasValue value refusal = refusal_value refusal ≡ value

slots_have : (slot : ℕ) → AllByRecursion (HasValue (Some slot)) (slot_refusals slot)
slots_have slot = (refl, (refl, (refl, (refl, (refl, (refl, tt))))))

flows_have : (slot : ℕ) (fault : Option FlowFault) → ((f : FlowFault) → fault ≡ Some f → fault_number f ≡ slot)
    → AllByRecursion (HasValue (Some slot)) (flow_refusals fault ++ slot_refusals slot)
flows_have slot None number = slots_have slot
flows_have slot (Some f) number = (ap Some (number f refl), slots_have slot)

all_have : (value : Option ℕ) → AllByRecursion (HasValue value) (refusals_of value)
all_have None =
    (refl, (refl, (refl, (refl, (refl, (refl, (refl, (refl, (refl, (refl, (refl, (refl, (refl, (refl, (refl, (refl, tt))))))))))))))))
all_have (Some slot) = flows_have slot (fault_with slot) (fault_number-found slot)

named : (n : ℕ) (value : Option ℕ) (refusal : Refusal) → refusal_with n value ≡ Some refusal
    → (refusal_number refusal ≡ n) × (refusal_value refusal ≡ value)
unfolding refusal_with
named n value refusal is =
    let holds = subst (λ (o : Option Refusal). IfSome o (λ r. ((refusal_number r == n) ≡ true) × HasValue value r)) is
    (find-holds (λ r. refusal_number r == n) (HasValue value) (refusals_of value) (all_have value)) in
    (eqb-true (refusal_number refusal) n holds.0, holds.1)

-- a refusal is found under its number and its value alone
pub exact_refusal : IsExactRefusal
exact_refusal n value refusal = (
  named n value refusal,
  λ h. ap₂ refusal_with (sym h.0) (sym h.1) ∙ refusal_with-number refusal,
)
