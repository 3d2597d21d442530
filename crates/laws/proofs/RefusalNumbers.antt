-- A refusal is the one of its number and its value.
use Rattle.std.proofs.Common.{◌≡◌, ◌<◌, ◌^◌, ℕ, ◌==◌, false, List, ◌++◌, Option, Some, None, refl, lit<}
use Rattle.std.specs.Prelude.{find}
use Rattle.sched_calls.specs.declared.spec.FlowFault.{FlowFault}
use Rattle.sched_calls.specs.declared.spec.FlowFault.TheVariants.{Size, IntervalNotWhole, IntervalNotFrames}
use Rattle.sched_calls.specs.declared.spec.FlowFault.TheVariants.{IntervalNotInCycle, Priority, Burst, Grants, Reserved}
use Rattle.sched_calls.specs.declared.reply.Refusal.{Refusal}
use Rattle.sched_calls.specs.declared.reply.Refusal.TheVariants.{BadSid, SidLive, BadFlow, FlowsFull, PeriodicFull}
use Rattle.sched_calls.specs.declared.reply.Refusal.TheVariants.{NoPlace, NoFlow, NotAsking, BadReceiver, BadBytes}
use Rattle.sched_calls.specs.declared.reply.Refusal.TheVariants.{Acked, Ahead, Backwards, BadClock, TooEarly, Late}
use Rattle.sched_calls.specs.declared.reply.Refusal.TheVariants.{NotLate, BadLength, ReservesFull, BadBackoff}
use Rattle.sched_calls.specs.declared.reply.Refusal.TheVariants.{OtherKind, NotUnsolicited, TooShort}
use Rattle.sched_lines.specs.Line.{refusal_number, refusal_value}
use Rattle.history_reading.specs.Refusals.{fault_with, slot_refusals, flow_refusals, refusal_with}

-- a refusal with a minislot is found behind that of a flow's parameters, which has another number
past_flow : (fault : Option FlowFault) (n : ℕ) (rest : List Refusal) → (3 == n) ≡ false
    → find (λ refusal. refusal_number refusal == n) (flow_refusals fault ++ rest)
    ≡ find (λ refusal. refusal_number refusal == n) rest
past_flow None n rest other = refl
past_flow (Some fault) n rest other = rw other refl

-- a refusal is the one that has its number, and its value or none
pub refusal_with-number : (refusal : Refusal)
    → refusal_with (refusal_number refusal) (refusal_value refusal) ≡ Some refusal
unfolding refusal_with fault_with
refusal_with-number BadSid = refl
refusal_with-number SidLive = refl
refusal_with-number (BadFlow Size) = refl
refusal_with-number (BadFlow IntervalNotWhole) = refl
refusal_with-number (BadFlow IntervalNotFrames) = refl
refusal_with-number (BadFlow IntervalNotInCycle) = refl
refusal_with-number (BadFlow Priority) = refl
refusal_with-number (BadFlow Burst) = refl
refusal_with-number (BadFlow Grants) = refl
refusal_with-number (BadFlow Reserved) = refl
refusal_with-number FlowsFull = refl
refusal_with-number PeriodicFull = refl
refusal_with-number NoPlace = refl
refusal_with-number NoFlow = refl
refusal_with-number NotAsking = refl
refusal_with-number BadReceiver = refl
refusal_with-number BadBytes = refl
refusal_with-number (Acked slot) = past_flow (fault_with slot) 11 (slot_refusals slot) refl
refusal_with-number (Ahead slot) = past_flow (fault_with slot) 12 (slot_refusals slot) refl
refusal_with-number (Backwards slot) = past_flow (fault_with slot) 13 (slot_refusals slot) refl
refusal_with-number BadClock = refl
refusal_with-number (TooEarly slot) = past_flow (fault_with slot) 15 (slot_refusals slot) refl
refusal_with-number (Late slot) = past_flow (fault_with slot) 16 (slot_refusals slot) refl
refusal_with-number (NotLate slot) = past_flow (fault_with slot) 17 (slot_refusals slot) refl
refusal_with-number BadLength = refl
refusal_with-number ReservesFull = refl
refusal_with-number BadBackoff = refl
refusal_with-number OtherKind = refl
refusal_with-number NotUnsolicited = refl
refusal_with-number TooShort = refl

-- the number of a refusal is small
pub number_fits : (refusal : Refusal) → refusal_number refusal < 2 ^ 64
number_fits BadSid = lit< tt
number_fits SidLive = lit< tt
number_fits (BadFlow fault) = lit< tt
number_fits FlowsFull = lit< tt
number_fits PeriodicFull = lit< tt
number_fits NoPlace = lit< tt
number_fits NoFlow = lit< tt
number_fits NotAsking = lit< tt
number_fits BadReceiver = lit< tt
number_fits BadBytes = lit< tt
number_fits (Acked slot) = lit< tt
number_fits (Ahead slot) = lit< tt
number_fits (Backwards slot) = lit< tt
number_fits BadClock = lit< tt
number_fits (TooEarly slot) = lit< tt
number_fits (Late slot) = lit< tt
number_fits (NotLate slot) = lit< tt
number_fits BadLength = lit< tt
number_fits ReservesFull = lit< tt
number_fits BadBackoff = lit< tt
number_fits OtherKind = lit< tt
number_fits NotUnsolicited = lit< tt
number_fits TooShort = lit< tt
