-- Worked examples of parameters that are refused, and of the first reason.
use Rattle.std.proofs.Common.{◌≡◌, Some, None, refl}
use Rattle.sched_calls.specs.declared.spec.FlowSpec.TheVariants.{Unsolicited, Polled, BestEffort}
use Rattle.sched_calls.specs.declared.spec.FlowFault.TheVariants.{Size, IntervalNotWhole, IntervalNotFrames}
use Rattle.sched_calls.specs.declared.spec.FlowFault.TheVariants.{IntervalNotInCycle, Priority, Burst, Grants, Reserved}
use Rattle.sched_calls.specs.FlowSpec.{first_fault}
use Rattle.sched_calls.proofs.Base.{base}

-- 10010 microseconds are 400.4 minislots
pub an_interval_of_part_of_a_minislot_is_refused : first_fault base (Unsolicited 200 10010 0 1) ≡ Some IntervalNotWhole
unfolding first_fault
an_interval_of_part_of_a_minislot_is_refused = refl

-- 1500 microseconds are a frame and a half
pub an_interval_of_part_of_a_frame_is_refused : first_fault base (Unsolicited 200 1500 0 1) ≡ Some IntervalNotFrames
unfolding first_fault
an_interval_of_part_of_a_frame_is_refused = refl

-- 30 frames do not divide the cycle of 20
pub an_interval_longer_than_the_cycle_is_refused : first_fault base (Unsolicited 200 30000 0 1)
    ≡ Some IntervalNotInCycle
unfolding first_fault
an_interval_longer_than_the_cycle_is_refused = refl

-- a grant of no bytes is refused for its size, whatever its interval
pub a_size_of_nothing_is_refused_first : first_fault base (Unsolicited 0 10010 0 1) ≡ Some Size
unfolding first_fault
a_size_of_nothing_is_refused_first = refl

-- priorities end at 7
pub a_priority_above_seven_is_refused : first_fault base (BestEffort 8 0 0 0 0 0) ≡ Some Priority
unfolding first_fault
a_priority_above_seven_is_refused = refl

-- under a ceiling the burst is the quantum at least
pub a_burst_below_the_quantum_is_refused : first_fault base (BestEffort 7 1 63 0 0 0) ≡ Some Burst
unfolding first_fault
a_burst_below_the_quantum_is_refused = refl

-- that of a polled flow too: 63 bytes are below it, and 64 are not
pub a_polled_burst_below_the_quantum_is_refused : (first_fault base (Polled 5000 0 1 63 0) ≡ Some Burst)
    × (first_fault base (Polled 5000 0 1 64 0) ≡ None)
unfolding first_fault
a_polled_burst_below_the_quantum_is_refused = (refl, refl)

-- 544 bytes fill a frame behind its request region, and 545 are too long
pub the_longest_size_fills_the_frame : (first_fault base (Unsolicited 544 10000 0 1) ≡ None)
    × (first_fault base (Unsolicited 545 10000 0 1) ≡ Some Size)
unfolding first_fault
the_longest_size_fills_the_frame = (refl, refl)

-- grants per interval are from 1 to 8
pub grants_of_none_or_nine_are_refused : (first_fault base (Unsolicited 200 10000 0 0) ≡ Some Grants)
    × (first_fault base (Unsolicited 200 10000 0 9) ≡ Some Grants)
    × (first_fault base (Unsolicited 200 10000 0 8) ≡ None)
unfolding first_fault
grants_of_none_or_nine_are_refused = (refl, refl, refl)

-- a size of nothing comes before them
pub a_size_of_nothing_is_refused_before_grants : first_fault base (Unsolicited 0 10000 0 0) ≡ Some Size
unfolding first_fault
a_size_of_nothing_is_refused_before_grants = refl

-- the burst of a reservation is the quantum at least: 63 bytes are below it, and 64 are not
pub a_reserved_burst_below_the_quantum_is_refused : (first_fault base (BestEffort 0 0 0 0 1 63) ≡ Some Reserved)
    × (first_fault base (BestEffort 0 0 0 0 1 64) ≡ None)
unfolding first_fault
a_reserved_burst_below_the_quantum_is_refused = (refl, refl)

-- where nothing is reserved the burst of it is not looked at
pub a_burst_of_no_reservation_is_not_looked_at : first_fault base (BestEffort 0 0 0 0 0 63) ≡ None
unfolding first_fault
a_burst_of_no_reservation_is_not_looked_at = refl

-- the burst of a ceiling comes before it
pub a_burst_is_refused_before_that_of_a_reservation : first_fault base (BestEffort 0 1 63 0 1 63) ≡ Some Burst
unfolding first_fault
a_burst_is_refused_before_that_of_a_reservation = refl
