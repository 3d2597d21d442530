-- Worked examples of a state: minislots of 4 ticks, 64000 bits in a second, bursts of 1600 bytes.
use Rattle.std.proofs.Common.{◌≡◌, ℕ, [], ◌∷◌, None, Some, refl}
use Rattle.sched_calls.specs.declared.spec.FlowSpec.TheVariants.{BestEffort}
use Rattle.flow_book.specs.declared.batches.Batches.{Batches}
use Rattle.flow_book.specs.Flows.{LiveFlow, charges_of}
use Rattle.flow_book.specs.FlowState.{level_after, batch_state, flow_state}
use Rattle.sched_calls.proofs.Base.{base}
use Rattle.flow_book.proofs.Profile.{one_request}
use Rattle.flow_book.proofs.RowsCeiling.{grant}

-- where no grant counts the level is that of the whole burst, at each minislot
pub without_grants_the_burst_is_left : (slot : ℕ) → level_after base 64000 1600 slot [] ≡ Some 2048000000
without_grants_the_burst_is_left slot = refl

-- at 884, after 544 bytes there and at 844, 520 are left, of which the rate brought 8
pub two_grants_leave_520_bytes :
    level_after base 64000 1600 884 (charges_of (grant 844 544 ∷ grant 884 544 ∷ [])) ≡ Some 665600000
two_grants_leave_520_bytes = refl

-- in one minislot it brings a fifth of a byte
pub a_level_has_parts_of_bytes :
    level_after base 64000 1600 845 (charges_of (grant 844 544 ∷ grant 845 544 ∷ [])) ≡ Some 655616000
a_level_has_parts_of_bytes = refl

-- long after it the first grant counts no more
pub a_bucket_that_was_full_again_forgets_the_first :
    level_after base 64000 1600 100000 (charges_of (grant 844 544 ∷ grant 100000 544 ∷ [])) ≡ Some 1351680000
a_bucket_that_was_full_again_forgets_the_first = refl

pub a_rate_of_0_has_no_level : level_after base 0 1600 844 (charges_of (grant 844 544 ∷ [])) ≡ None
a_rate_of_0_has_no_level = refl

-- a flow with a peak rate that was granted 64 bytes at 844, under its reservation, and 448 at 850, not under it
abbrev reserving : LiveFlow
reserving = record {
  sid = 17;
  spec = BestEffort 3 0 0 640000 512000 64;
  asked = 1000;
  batches = one_request 1000 801;
  grants = grant 844 64 ∷ grant 850 448 ∷ [];
  sustained = charges_of (grant 844 64 ∷ grant 850 448 ∷ []);
  peak = charges_of (grant 844 64 ∷ grant 850 448 ∷ []);
  reserved = charges_of (grant 844 64 ∷ []);
}

-- its reservation had nothing left at 844, and at 850, where its last grant starts, 6 minislots of 2048000
pub the_level_of_a_reservation_is_at_the_last_grant : ((flow_state base reserving).last ≡ Some 850)
    × ((flow_state base reserving).sustained ≡ None) × ((flow_state base reserving).peak ≡ Some 1308160000)
    × ((flow_state base reserving).reserved ≡ Some 12288000)
the_level_of_a_reservation_is_at_the_last_grant = (refl, refl, refl, refl)

-- and in a later period of it all of its burst is left
pub another_period_has_the_whole_burst :
    (flow_state base (record reserving { reserved = [] })).reserved ≡ Some 81920000
another_period_has_the_whole_burst = refl

-- two batches, of which the first ends with the 100th byte
abbrev two : Batches
two = record { end = 100; first = 805; second = Some 803 }

-- while bytes of the first wait both stand
pub both_batches_wait : batch_state two 150 99 ≡ Some (record { end = 100; first = 805; second = Some 803 })
both_batches_wait = refl

-- then the second is the first
pub the_second_is_the_first : batch_state two 150 100 ≡ Some (record { end = 150; first = 803; second = None })
the_second_is_the_first = refl

-- and where nothing waits there is none
pub no_batch_waits : batch_state two 150 150 ≡ None
no_batch_waits = refl
