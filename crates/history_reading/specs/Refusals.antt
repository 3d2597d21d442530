-- The refusal that has a number and a value.
use Rattle.std.specs.Prelude.{◌≡◌, ◌↔◌, ℕ, ◌==◌, List, [], ◌∷◌, ◌++◌, Option, Some, None, find}
use Rattle.sched_calls.specs.declared.spec.FlowFault.{FlowFault}
use Rattle.sched_calls.specs.declared.spec.FlowFault.TheVariants.{Size, IntervalNotWhole, IntervalNotFrames}
use Rattle.sched_calls.specs.declared.spec.FlowFault.TheVariants.{IntervalNotInCycle, Priority, Burst, Grants, Reserved}
use Rattle.sched_calls.specs.declared.reply.Refusal.{Refusal}
use Rattle.sched_calls.specs.declared.reply.Refusal.TheVariants.{BadSid, SidLive, BadFlow, FlowsFull, PeriodicFull}
use Rattle.sched_calls.specs.declared.reply.Refusal.TheVariants.{NoPlace, NoFlow, NotAsking, BadReceiver, BadBytes}
use Rattle.sched_calls.specs.declared.reply.Refusal.TheVariants.{Acked, Ahead, Backwards, BadClock, TooEarly, Late}
use Rattle.sched_calls.specs.declared.reply.Refusal.TheVariants.{NotLate, BadLength, ReservesFull, BadBackoff}
use Rattle.sched_calls.specs.declared.reply.Refusal.TheVariants.{OtherKind, NotUnsolicited, TooShort}
use Rattle.sched_lines.specs.Line.{fault_number, refusal_number, refusal_value}

-- the faults in a flow's parameters
abbrev pub flow_faults : List FlowFault
flow_faults =
    Size ∷ IntervalNotWhole ∷ IntervalNotFrames ∷ IntervalNotInCycle ∷ Priority ∷ Burst ∷ Grants ∷ Reserved ∷ []

-- the fault in a flow's parameters that has this number
unfoldable pub fault_with : ℕ → Option FlowFault
fault_with n = find (λ fault. fault_number fault == n) flow_faults

-- the refusals that have no value
abbrev pub plain_refusals : List Refusal
plain_refusals =
    BadSid ∷ SidLive ∷ FlowsFull ∷ PeriodicFull ∷ NoPlace ∷ NoFlow ∷ NotAsking ∷ BadReceiver ∷ BadBytes ∷ BadClock
    ∷ BadLength ∷ ReservesFull ∷ BadBackoff ∷ OtherKind ∷ NotUnsolicited ∷ TooShort ∷ []

-- the refusals whose value is this minislot
abbrev pub slot_refusals : ℕ → List Refusal
slot_refusals slot = Acked slot ∷ Ahead slot ∷ Backwards slot ∷ TooEarly slot ∷ Late slot ∷ NotLate slot ∷ []

-- the refusals whose value is the number of this fault, where there is one
abbrev pub flow_refusals : Option FlowFault → List Refusal
flow_refusals None = []
flow_refusals (Some fault) = BadFlow fault ∷ []

-- the refusals that have this value, or none
abbrev pub refusals_of : Option ℕ → List Refusal
refusals_of None = plain_refusals
refusals_of (Some value) = flow_refusals (fault_with value) ++ slot_refusals value

-- the refusal that has this number, and this value or none
unfoldable pub refusal_with : ℕ → Option ℕ → Option Refusal
refusal_with n value = find (λ refusal. refusal_number refusal == n) (refusals_of value)

-- a refusal is found under its number and its value alone
abbrev pub IsExactRefusal : Type 0
IsExactRefusal = (n : ℕ) (value : Option ℕ) (refusal : Refusal)
    → (refusal_with n value ≡ Some refusal) ↔ ((refusal_number refusal ≡ n) × (refusal_value refusal ≡ value))
