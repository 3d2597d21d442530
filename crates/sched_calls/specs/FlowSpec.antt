-- The parameters of a flow: what they say in minislots, and which of them are refused.
use Rattle.std.specs.Prelude.{ℕ, ◌-◌, ◌/◌, ◌%◌, Bool, true, false, not, ◌&&◌, ◌||◌, nat_lt, ◌==◌, List, [], ◌∷◌}
use Rattle.std.specs.Prelude.{Option, None, Some, is_none, find}
use Rattle.minislots.specs.declared.config.Config.{Config}
use Rattle.minislots.specs.Units.{slots_for_unsolicited, slots_floor, slots_of_micros}
use Rattle.sched_calls.specs.declared.spec.FlowSpec.{FlowSpec}
use Rattle.sched_calls.specs.declared.spec.FlowSpec.TheVariants.{Unsolicited, Polled, BestEffort}
use Rattle.sched_calls.specs.declared.spec.FlowFault.{FlowFault}
use Rattle.sched_calls.specs.declared.spec.FlowFault.TheVariants.{Size, IntervalNotWhole, IntervalNotFrames}
use Rattle.sched_calls.specs.declared.spec.FlowFault.TheVariants.{IntervalNotInCycle, Priority, Burst, Grants, Reserved}
use Rattle.sched_calls.specs.declared.TheConstants.{MAX_GRANTS}

-- whether the flow has a place in the cycle: unsolicited grants or polls
abbrev pub is_periodic : FlowSpec → Bool
is_periodic (Unsolicited size interval jitter grants) = true
is_periodic (Polled interval jitter rate burst peak) = true
is_periodic (BestEffort priority rate burst peak reserved reserved-burst) = false

-- whether two flows are of one kind: both unsolicited, both polled, or both best effort
abbrev pub is_kind_of : FlowSpec → FlowSpec → Bool
is_kind_of (Unsolicited size interval jitter grants) (Unsolicited size′ interval′ jitter′ grants′) = true
is_kind_of (Polled interval jitter rate burst peak) (Polled interval′ jitter′ rate′ burst′ peak′) = true
is_kind_of (BestEffort priority rate burst peak reserved reserved-burst)
    (BestEffort priority′ rate′ burst′ peak′ reserved′ reserved-burst′) = true
is_kind_of spec other = false

-- whether two flows may stand at one place in the cycle: periodic ones with the same interval, jitter, size and grants
abbrev pub has_place_of : FlowSpec → FlowSpec → Bool
has_place_of (Unsolicited size interval jitter grants) (Unsolicited size′ interval′ jitter′ grants′) =
    size == size′ && interval == interval′ && jitter == jitter′ && grants == grants′
has_place_of (Polled interval jitter rate burst peak) (Polled interval′ jitter′ rate′ burst′ peak′) =
    interval == interval′ && jitter == jitter′
has_place_of spec other = false

-- whether the flow is polled
abbrev pub is_polled : FlowSpec → Bool
is_polled (Unsolicited size interval jitter grants) = false
is_polled (Polled interval jitter rate burst peak) = true
is_polled (BestEffort priority rate burst peak reserved reserved-burst) = false

-- whether the flow asks for bytes and gets data grants for them
abbrev pub takes_requests : FlowSpec → Bool
takes_requests (Unsolicited size interval jitter grants) = false
takes_requests (Polled interval jitter rate burst peak) = true
takes_requests (BestEffort priority rate burst peak reserved reserved-burst) = true

-- the rank of a flow that asks, by which it is served, the highest first: a best effort flow has its traffic priority,
-- 0 to 7, and a polled flow 8, so it comes before all of them. No choice depends on the 0 of an unsolicited
-- flow, since such a flow asks for nothing.
abbrev pub rank_of : FlowSpec → ℕ
rank_of (Unsolicited size interval jitter grants) = 0
rank_of (Polled interval jitter rate burst peak) = 8
rank_of (BestEffort priority rate burst peak reserved reserved-burst) = priority

-- the maximum sustained rate, in bits per second: 0 is no ceiling
abbrev pub rate_of : FlowSpec → ℕ
rate_of (Unsolicited size interval jitter grants) = 0
rate_of (Polled interval jitter rate burst peak) = rate
rate_of (BestEffort priority rate burst peak reserved reserved-burst) = rate

-- the maximum burst, in bytes
abbrev pub burst_of : FlowSpec → ℕ
burst_of (Unsolicited size interval jitter grants) = 0
burst_of (Polled interval jitter rate burst peak) = burst
burst_of (BestEffort priority rate burst peak reserved reserved-burst) = burst

-- the peak traffic rate, in bits per second: 0 is no ceiling
abbrev pub peak_of : FlowSpec → ℕ
peak_of (Unsolicited size interval jitter grants) = 0
peak_of (Polled interval jitter rate burst peak) = peak
peak_of (BestEffort priority rate burst peak reserved reserved-burst) = peak

-- the minimum reserved rate, in bits per second: 0 reserves nothing
abbrev pub reserved_of : FlowSpec → ℕ
reserved_of (Unsolicited size interval jitter grants) = 0
reserved_of (Polled interval jitter rate burst peak) = 0
reserved_of (BestEffort priority rate burst peak reserved reserved-burst) = reserved

-- the burst of the reservation, in bytes
abbrev pub reserved_burst_of : FlowSpec → ℕ
reserved_burst_of (Unsolicited size interval jitter grants) = 0
reserved_burst_of (Polled interval jitter rate burst peak) = 0
reserved_burst_of (BestEffort priority rate burst peak reserved reserved-burst) = reserved-burst

-- the nominal interval, in microseconds: 0 where there is none
abbrev pub interval_of : FlowSpec → ℕ
interval_of (Unsolicited size interval jitter grants) = interval
interval_of (Polled interval jitter rate burst peak) = interval
interval_of (BestEffort priority rate burst peak reserved reserved-burst) = 0

-- the nominal interval, in frames
abbrev pub interval_frames : Config → FlowSpec → ℕ
interval_frames c spec = slots_floor c (interval_of spec) / c.frame

-- the tolerated jitter, in minislots
abbrev pub jitter_slots : Config → FlowSpec → ℕ
jitter_slots c (Unsolicited size interval jitter grants) = slots_floor c jitter
jitter_slots c (Polled interval jitter rate burst peak) = slots_floor c jitter
jitter_slots c (BestEffort priority rate burst peak reserved reserved-burst) = 0

-- the minislots of one unsolicited grant, or of one poll
abbrev pub periodic_slots : Config → FlowSpec → ℕ
periodic_slots c (Unsolicited size interval jitter grants) = slots_for_unsolicited c size
periodic_slots c (Polled interval jitter rate burst peak) = c.poll_slots
periodic_slots c (BestEffort priority rate burst peak reserved reserved-burst) = 0

-- the bytes of one unsolicited grant: none where it is a poll
abbrev pub size_of : FlowSpec → Option ℕ
size_of (Unsolicited size interval jitter grants) = Some size
size_of (Polled interval jitter rate burst peak) = None
size_of (BestEffort priority rate burst peak reserved reserved-burst) = None

-- the grants per interval: one poll of a polled flow
abbrev pub grants_of : FlowSpec → ℕ
grants_of (Unsolicited size interval jitter grants) = grants
grants_of (Polled interval jitter rate burst peak) = 1
grants_of (BestEffort priority rate burst peak reserved reserved-burst) = 0

-- whether this fault meets the parameters
abbrev pub has_fault : Config → FlowSpec → FlowFault → Bool
has_fault c (Unsolicited size interval jitter grants) Size =
    size == 0 || nat_lt (c.frame - c.req_slots) (slots_for_unsolicited c size)
has_fault c (Polled interval jitter rate burst peak) Size = false
has_fault c (BestEffort priority rate burst peak reserved reserved-burst) Size = false
has_fault c spec IntervalNotWhole = is_periodic spec && is_none (slots_of_micros c (interval_of spec))
has_fault c spec IntervalNotFrames = is_periodic spec
    && (slots_floor c (interval_of spec) == 0 || not (slots_floor c (interval_of spec) % c.frame == 0))
has_fault c spec IntervalNotInCycle = is_periodic spec && not (c.cycle % interval_frames c spec == 0)
has_fault c (Unsolicited size interval jitter grants) Priority = false
has_fault c (Polled interval jitter rate burst peak) Priority = false
has_fault c (BestEffort priority rate burst peak reserved reserved-burst) Priority = nat_lt 7 priority
has_fault c spec Burst = takes_requests spec && nat_lt 0 (rate_of spec) && nat_lt (burst_of spec) c.quantum
has_fault c (Unsolicited size interval jitter grants) Grants = grants == 0 || nat_lt MAX_GRANTS grants
has_fault c (Polled interval jitter rate burst peak) Grants = false
has_fault c (BestEffort priority rate burst peak reserved reserved-burst) Grants = false
has_fault c spec Reserved = nat_lt 0 (reserved_of spec) && nat_lt (reserved_burst_of spec) c.quantum

-- the faults in the order of their tests
abbrev pub faults : List FlowFault
faults = Size ∷ IntervalNotWhole ∷ IntervalNotFrames ∷ IntervalNotInCycle ∷ Priority ∷ Burst ∷ Grants ∷ Reserved ∷ []

-- the faults of an interval
abbrev pub interval_faults : List FlowFault
interval_faults = IntervalNotWhole ∷ IntervalNotFrames ∷ IntervalNotInCycle ∷ []

-- the first of some faults that meets the parameters
abbrev pub first_fault_of : Config → FlowSpec → List FlowFault → Option FlowFault
first_fault_of c spec some = find (has_fault c spec) some

-- the first fault of the parameters
unfoldable pub first_fault : Config → FlowSpec → Option FlowFault
first_fault c spec = first_fault_of c spec faults
