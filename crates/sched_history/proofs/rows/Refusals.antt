-- Worked histories of refused calls.
use Rattle.std.proofs.Common.{[], ◌∷◌, Some, refl}
use Rattle.sched_calls.specs.declared.spec.FlowSpec.TheVariants.{Unsolicited, BestEffort}
use Rattle.sched_calls.specs.declared.spec.FlowFault.TheVariants.{Size, IntervalNotWhole, IntervalNotFrames}
use Rattle.sched_calls.specs.declared.spec.FlowFault.TheVariants.{IntervalNotInCycle, Priority, Burst, Grants}
use Rattle.sched_calls.specs.FlowSpec.{first_fault}
use Rattle.sched_calls.proofs.Base.{base}
use Rattle.periodic.proofs.RowsPlacement.{voice, placement}
use Rattle.sched_calls.specs.declared.amount.Amount.TheVariants.{Bytes}
use Rattle.sched_calls.specs.declared.call.Call.TheVariants.{Admit, Remove, Ask, Status}
use Rattle.sched_calls.specs.declared.reply.Refusal.TheVariants.{BadSid, SidLive, BadFlow, NoFlow}
use Rattle.sched_calls.specs.declared.reply.Refusal.TheVariants.{NotAsking, BadBytes, Ahead}
use Rattle.sched_calls.specs.declared.reply.Reply.TheVariants.{Admitted, Taken, Refused}
use Rattle.sched_history.specs.Life.{sids}
use Rattle.sched_history.specs.History.{IsStep}
use Rattle.sched_history.proofs.rows.TwoMaps.{entry, built, admitted}

-- a request heard in a frame that no MAP describes is refused
pub a_request_heard_too_late_is_refused : IsStep base (admitted ∷ []) (Ask 0 17 (Bytes 100) 800) (Refused (Ahead 800))
unfolding sids
a_request_heard_too_late_is_refused = refl

-- a live SID is not admitted again
pub a_live_sid_is_refused : IsStep base (admitted ∷ []) (Admit 17 (BestEffort 3 0 0 0 0 0)) (Refused SidLive)
unfolding sids
a_live_sid_is_refused = refl

-- SID 0 and SIDs above 8191 are no flow's
pub sid_zero_is_refused : IsStep base (admitted ∷ []) (Remove 0) (Refused BadSid)
sid_zero_is_refused = refl

-- SID 8192 is no flow's
pub a_sid_above_the_last_is_refused : IsStep base (admitted ∷ []) (Status 8192) (Refused BadSid)
a_sid_above_the_last_is_refused = refl

-- a SID that is not live has no flow to remove
pub a_sid_that_is_not_live_is_refused : IsStep base (admitted ∷ []) (Remove 70) (Refused NoFlow)
unfolding sids
a_sid_that_is_not_live_is_refused = refl

-- an unsolicited flow does not ask
pub a_request_of_an_unsolicited_flow_is_refused : IsStep base
    (entry 0 (Admit 5 voice) (Admitted (Some (placement 804 (4 ∷ 4 ∷ [])))) ∷ []) (Ask 0 5 (Bytes 100) 799)
    (Refused NotAsking)
unfolding sids
a_request_of_an_unsolicited_flow_is_refused = refl

-- a request is for 1 byte at least
pub a_request_of_no_bytes_is_refused : IsStep base (built ∷ admitted ∷ []) (Ask 0 17 (Bytes 0) 801) (Refused BadBytes)
unfolding sids
a_request_of_no_bytes_is_refused = refl

-- and for 1048560 at most
pub a_request_of_too_many_bytes_is_refused : IsStep base (built ∷ admitted ∷ []) (Ask 0 17 (Bytes 1048561) 801)
    (Refused BadBytes)
unfolding sids
a_request_of_too_many_bytes_is_refused = refl

-- 1048560 bytes can be asked for
pub a_request_of_the_most_bytes_is_taken : IsStep base (built ∷ admitted ∷ []) (Ask 0 17 (Bytes 1048560) 801) Taken
unfolding sids
a_request_of_the_most_bytes_is_taken = refl

-- the first fault of the parameters is the refusal's
pub an_admission_with_a_part_of_a_minislot_is_refused : IsStep base [] (Admit 5 (Unsolicited 200 10010 0 1))
    (Refused (BadFlow IntervalNotWhole))
unfolding first_fault sids
an_admission_with_a_part_of_a_minislot_is_refused = refl

-- 1500 microseconds are 60 minislots, one frame and a half
pub an_admission_with_a_part_of_a_frame_is_refused : IsStep base [] (Admit 5 (Unsolicited 200 1500 0 1))
    (Refused (BadFlow IntervalNotFrames))
unfolding first_fault sids
an_admission_with_a_part_of_a_frame_is_refused = refl

-- 30000 microseconds are 30 frames, above the 20 of the cycle
pub an_admission_longer_than_the_cycle_is_refused : IsStep base [] (Admit 5 (Unsolicited 200 30000 0 1))
    (Refused (BadFlow IntervalNotInCycle))
unfolding first_fault sids
an_admission_longer_than_the_cycle_is_refused = refl

-- an unsolicited flow of 0 bytes
pub an_admission_without_size_is_refused : IsStep base [] (Admit 5 (Unsolicited 0 10010 0 1)) (Refused (BadFlow Size))
unfolding first_fault sids
an_admission_without_size_is_refused = refl

-- priority 8
pub an_admission_above_the_priorities_is_refused : IsStep base [] (Admit 5 (BestEffort 8 0 0 0 0 0))
    (Refused (BadFlow Priority))
unfolding first_fault sids
an_admission_above_the_priorities_is_refused = refl

-- a burst of 63 bytes, below the quantum of 64
pub an_admission_below_the_quantum_is_refused : IsStep base [] (Admit 5 (BestEffort 7 1 63 0 0 0)) (Refused
    (BadFlow Burst))
unfolding first_fault sids
an_admission_below_the_quantum_is_refused = refl

-- grants per interval are from 1 to 8
pub an_admission_without_grants_is_refused : IsStep base [] (Admit 5 (Unsolicited 200 10000 0 0))
    (Refused (BadFlow Grants))
unfolding first_fault sids
an_admission_without_grants_is_refused = refl

-- nine grants per interval
pub an_admission_with_nine_grants_is_refused : IsStep base [] (Admit 5 (Unsolicited 200 10000 0 9))
    (Refused (BadFlow Grants))
unfolding first_fault sids
an_admission_with_nine_grants_is_refused = refl
