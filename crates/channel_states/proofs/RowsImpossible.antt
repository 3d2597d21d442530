-- Worked states that are not possible, each by one thing that is another than in the possible one.
use Rattle.std.proofs.Common.{refl, true, false, [], ◌∷◌, Some, None, lit<, inl, inr, arith}
use Rattle.sched_calls.specs.declared.opportunity.Usage.TheVariants.{Initial, Station}
use Rattle.sched_calls.specs.declared.spec.FlowSpec.TheVariants.{BestEffort}
use Rattle.sched_calls.specs.FlowSpec.{first_fault}
use Rattle.channel_states.specs.Possible.{IsPossible}
use Rattle.channel_states.proofs.Worked.{channel, voice_at, polled, polled_place, in_two_batches, in_one_batch}
use Rattle.channel_states.proofs.Worked.{header, older, newer, with_flows, state}

-- more entries than 2^44
pub a_history_has_no_more_entries : IsPossible channel (record state { entries = 17592186044417 }) → ⊥
a_history_has_no_more_entries is = absurd (omega (arith, is.entries))

-- a receiver for which no progress is told
pub each_receiver_has_its_progress : IsPossible channel (record state { progress = [] }) → ⊥
each_receiver_has_its_progress is = absurd (omega (arith, is.times.receivers))

-- an acknowledge time above the progress
pub no_progress_is_below_the_acknowledge_time : IsPossible channel (record state { ack = 901 }) → ⊥
no_progress_is_below_the_acknowledge_time is = absurd (omega (arith, is.times.acknowledged.0))

-- an acknowledge time before the channel's start
pub the_acknowledge_time_is_not_before_the_start : IsPossible channel (record state { ack = 799 }) → ⊥
the_acknowledge_time_is_not_before_the_start is = absurd (omega (arith, is.times.ack_least))

-- a next frame that is none
pub the_next_frame_is_a_whole_one : IsPossible channel (record state { next = 970 }) → ⊥
the_next_frame_is_a_whole_one is = absurd (omega (arith, is.times.next_aligned))

-- an exponent of 16
pub no_window_is_so_wide : IsPossible channel (record state { header = record header { data_end = 16 } }) → ⊥
no_window_is_so_wide is = absurd (omega (arith, is.header.data_end))

-- a change with the frame that comes next
pub a_change_was_built : IsPossible channel (record state { change = Some 960 }) → ⊥
a_change_was_built is = absurd (omega (arith, is.change.most))

-- two flows of one SID
pub each_flow_has_its_own_sid : IsPossible channel (with_flows (in_one_batch ∷ in_one_batch ∷ [])) → ⊥
each_flow_has_its_own_sid is = absurd (omega (arith, is.sids.0.0))

-- a ceiling with a burst below the quantum
pub the_parameters_have_no_fault : IsPossible channel
    (with_flows (record in_two_batches { spec = BestEffort 3 64000 63 0 0 0 } ∷ [])) → ⊥
unfolding first_fault
the_parameters_have_no_fault is = absurd (let none = is.flows.0.parameters in cc)

-- more bytes than twelve calls ask for
pub no_call_asks_for_more : IsPossible channel (with_flows (record in_two_batches { asked = 12582721 } ∷ [])) → ⊥
no_call_asks_for_more is = absurd (omega (arith, is.flows.0.bytes.asked_most))

-- more bytes granted than asked
pub no_more_is_granted_than_asked : IsPossible channel (with_flows (record polled { asked = 599 } ∷ [])) → ⊥
no_more_is_granted_than_asked is = absurd (omega (arith, is.flows.0.bytes.within_asked))

-- bytes that were granted by no grant
pub granted_bytes_have_a_last_grant : IsPossible channel (with_flows (record polled { last = None } ∷ [])) → ⊥
granted_bytes_have_a_last_grant is = absurd (omega (arith, is.flows.0.last))

-- a last grant that no MAP has yet
pub a_last_grant_is_in_a_map : IsPossible channel (with_flows (record polled { last = Some 960 } ∷ [])) → ⊥
a_last_grant_is_in_a_map is = absurd (omega (arith, is.flows.0.last.1.1))

-- a level above the burst
pub no_level_is_above_its_burst : IsPossible channel
    (with_flows (record polled { sustained = Some 2048000001 } ∷ [])) → ⊥
no_level_is_above_its_burst is = absurd (omega (arith, is.flows.0.levels.sustained.1.most))

-- a level below its burst where there is no grant
pub a_level_is_full_without_a_grant : IsPossible channel
    (with_flows (record in_one_batch { reserved = Some 81919999 } ∷ [])) → ⊥
a_level_is_full_without_a_grant is = absurd (omega (arith, is.flows.0.levels.reserved.1.full))

-- a level of a rate of 0
pub a_rate_of_0_has_no_level : IsPossible channel (with_flows (record in_one_batch { sustained = Some 0 } ∷ [])) → ⊥
a_rate_of_0_has_no_level is = absurd (omega (arith, is.flows.0.levels.sustained.0))

-- a phase that is no frame of the interval
pub a_phase_is_a_frame_of_the_interval : IsPossible channel
    (with_flows (record polled { place = Some (record polled_place { phase = 1 }) } ∷ [])) → ⊥
a_phase_is_a_frame_of_the_interval is = absurd (omega (arith, is.flows.0.place.1.phase))

-- a polled flow that rests
pub no_polled_flow_rests : IsPossible channel
    (with_flows (record polled { place = Some (record polled_place { rests = true }) } ∷ [])) → ⊥
no_polled_flow_rests is = absurd (let silent = (is.flows.0.place.1.rests refl).unsolicited in cc)

-- a periodic flow without a place
pub a_periodic_flow_has_a_place : IsPossible channel (with_flows (record polled { place = None } ∷ [])) → ⊥
a_periodic_flow_has_a_place is = absurd (let none = is.flows.0.place in cc)

-- a start after the jitter
pub no_start_is_after_its_jitter : IsPossible channel
    (with_flows (record polled { place = Some (record polled_place { starts = 34 ∷ 35 ∷ [] }) } ∷ [])) → ⊥
no_start_is_after_its_jitter is =
    absurd (omega (arith, (is.flows.0.place.1.starts.each 1 (lit< tt) refl).each.0.within_jitter))

-- two voices that have a minislot in common, though one rests
pub a_flow_that_rests_keeps_its_minislots :
    IsPossible channel (with_flows (voice_at 5 4 true ∷ voice_at 6 18 false ∷ [])) → ⊥
a_flow_that_rests_keeps_its_minislots is = elim (is.places 0 (lit< tt)).apart.0.0 [
  | inl before ↦ omega (arith, before)
  | inr after ↦ omega (arith, after)
]

-- bytes outstanding without a batch
pub outstanding_bytes_are_in_a_batch : IsPossible channel (with_flows (record in_one_batch { batches = None } ∷ [])) → ⊥
outstanding_bytes_are_in_a_batch is = absurd (omega (arith, is.flows.0.batches))

-- a second batch with no bytes
pub a_second_batch_has_bytes : IsPossible channel
    (with_flows (record in_one_batch { batches = Some (record { end = 300; first = 900; second = Some 901 }) } ∷ []))
    → ⊥
a_second_batch_has_bytes is = absurd (let none = is.flows.0.batches.second.1 refl in cc)

-- a first batch whose bytes are all granted
pub a_first_batch_has_bytes : IsPossible channel
    (with_flows (record in_two_batches { batches = Some (record { end = 544; first = 801; second = Some 890 }) } ∷ []))
    → ⊥
a_first_batch_has_bytes is = absurd (omega (arith, is.flows.0.batches.outstanding))

-- a request that is heard in a frame which no MAP has described
pub a_request_is_heard_in_a_described_frame : IsPossible channel
    (with_flows (record in_one_batch { batches = Some (record { end = 300; first = 960; second = None }) } ∷ [])) → ⊥
a_request_is_heard_in_a_described_frame is = absurd (omega (arith, is.flows.0.batches.first_heard.1))

-- two flows that wait from before the acknowledge time, where a MAP shows one
pub no_more_wait_from_before_than_are_shown : IsPossible (record channel { pending = 1 })
    (with_flows (in_two_batches ∷ record in_two_batches { sid = 18 } ∷ [])) → ⊥
no_more_wait_from_before_than_are_shown is = absurd (omega (arith, is.shown))

-- a Reserve that saw more MAPs than one before it
pub no_reserve_is_older_than_one_before_it : IsPossible channel (record state { reserves = newer ∷ older ∷ [] }) → ⊥
no_reserve_is_older_than_one_before_it is = absurd (omega (arith, is.reserves.in_order.0.0))

-- one that has lapsed
pub no_reserve_has_lapsed : IsPossible channel (record state { reserves = record older { maps = 64 } ∷ [] }) → ⊥
no_reserve_has_lapsed is = absurd (omega (arith, is.reserves.each.0.waits))

-- one that is longer than a frame behind its request region
pub a_reserve_fits_a_frame : IsPossible channel
    (record state { reserves = record older { opportunity = record { usage = Initial; slots = 37 } } ∷ [] }) → ⊥
a_reserve_fits_a_frame is = absurd (omega (arith, is.reserves.each.0.fits))

-- one to an SID that no flow may have
pub a_reserve_goes_to_an_sid : IsPossible channel
    (record state { reserves = record older { opportunity = record { usage = Station 8192; slots = 4 } } ∷ [] }) → ⊥
a_reserve_goes_to_an_sid is = absurd (let sid = is.reserves.each.0.sid in cc)
