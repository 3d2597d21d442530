-- Worked examples of carried grants. Where nothing else is said a flow's ceiling is 64000 bits in a second, with bursts
-- of 1600 bytes: it brings 256000 tokens in a minislot, of which 1280000 are a byte.
use Rattle.std.proofs.Common.{◌≡◌, ℕ, ◌+◌, ◌-◌, ◌*◌, [], ◌∷◌, None, Some, refl}
use Rattle.sched_calls.specs.declared.spec.FlowSpec.TheVariants.{BestEffort}
use Rattle.sched_calls.proofs.Base.{base}
use Rattle.flow_book.specs.Batches.{no_batches}
use Rattle.flow_book.specs.Book.{with_spec, with_replaced}
use Rattle.flow_book.specs.FlowState.{flow_state}
use Rattle.flow_book.specs.Flows.{LiveFlow, Charge, charges_of}
use Rattle.flow_book.proofs.Profile.{one_request}
use Rattle.flow_book.proofs.RowsCeiling.{grant, under_ceiling}
use Rattle.flow_book.specs.Carried.{carried_grants, carried_charges, carried_flow}

-- what the state of a flow stands for
abbrev pub carried_of : LiveFlow → LiveFlow
carried_of f = carried_flow (flow_state base f)

-- a charge
abbrev pub charge : ℕ → ℕ → Charge
charge start tokens = record { start = start; tokens = tokens }

-- a flow that asked 3000 bytes and was granted 1000 at 900
abbrev once : LiveFlow
once = under_ceiling (grant 900 1000 ∷ [])

-- its grant is the carried one, and charges its bytes
pub one_grant_is_carried : carried_of once ≡ record once {
  sustained = charge 900 (1280000 * 1000) ∷ [];
  peak = [];
}
one_grant_is_carried = refl

-- the same in two grants, 40 minislots one after the other
abbrev twice : LiveFlow
twice = under_ceiling (grant 860 456 ∷ grant 900 544 ∷ [])

-- the carried grant has the bytes of both, where the second starts, and charges the 8 bytes less that the rate brought
-- in between
pub two_grants_are_carried_as_one : carried_of twice ≡ record once {
  sustained = charge 900 (1280000 * 992) ∷ [];
  peak = [];
}
two_grants_are_carried_as_one = refl

-- 544 bytes that were granted so long ago that the bucket was full again charge nothing behind 544 more
pub a_grant_of_long_ago_charges_nothing : (carried_of (under_ceiling (grant 844 544 ∷ grant 100000 544 ∷ []))).sustained
    ≡ charge 100000 (1280000 * 544) ∷ []
a_grant_of_long_ago_charges_nothing = refl

-- what the rate brings in a part of a byte is charged as exactly
pub a_carried_charge_has_parts_of_bytes : (carried_of (under_ceiling (grant 844 544 ∷ grant 845 544 ∷ []))).sustained
    ≡ charge 845 (1280000 * 1088 - 256000) ∷ []
a_carried_charge_has_parts_of_bytes = refl

-- a flow without a grant carries none, and charges nothing
pub a_flow_without_a_grant_carries_none : carried_of (under_ceiling []) ≡ under_ceiling []
a_flow_without_a_grant_carries_none = refl

-- without a rate nothing is charged, and the grants are carried all the same
pub a_rate_of_0_charges_nothing : carried_of (record twice { spec = BestEffort 3 0 1600 0 0 0 }) ≡ record once {
  spec = BestEffort 3 0 1600 0 0 0;
  sustained = [];
  peak = [];
}
a_rate_of_0_charges_nothing = refl

-- a period that began behind the last grant has all of its burst: the carried grant charges no token to it
pub a_period_behind_the_last_grant_is_full : carried_of (with_spec (BestEffort 3 64000 600 0 0 0) twice) ≡ record once {
  spec = BestEffort 3 64000 600 0 0 0;
  sustained = charge 900 0 ∷ [];
  peak = [];
}
a_period_behind_the_last_grant_is_full = refl

-- and one of the peak rate alone leaves what is charged to the ceiling
pub a_period_of_the_peak_leaves_the_ceiling : carried_of (with_spec (BestEffort 3 64000 1600 64000 0 0) twice)
    ≡ record once {
      spec = BestEffort 3 64000 1600 64000 0 0;
      sustained = charge 900 (1280000 * 992) ∷ [];
      peak = charge 900 0 ∷ [];
    }
a_period_of_the_peak_leaves_the_ceiling = refl

-- a flow with a peak rate and a reservation that was granted 64 bytes at 844, under its reservation, and 500 at 850,
-- not under it
abbrev pub reserving : LiveFlow
reserving = record {
  sid = 17;
  spec = BestEffort 3 0 0 640000 512000 64;
  asked = 3000;
  batches = one_request 3000 801;
  grants = grant 844 64 ∷ grant 850 500 ∷ [];
  sustained = charges_of (grant 844 64 ∷ grant 850 500 ∷ []);
  peak = charges_of (grant 844 64 ∷ grant 850 500 ∷ []);
  reserved = charges_of (grant 844 64 ∷ []);
}

-- its carried grant charges to each what is spent of it at 850: of the peak rate 564 bytes less the 12 that it brought,
-- and of the reservation 64 bytes less what 6 minislots of 2048000 tokens brought
pub each_rate_is_charged_what_is_spent : carried_of reserving ≡ record reserving {
  grants = grant 850 564 ∷ [];
  sustained = [];
  peak = charge 850 (1280000 * 552) ∷ [];
  reserved = charge 850 (1280000 * 64 - 6 * 2048000) ∷ [];
}
each_rate_is_charged_what_is_spent = refl

-- two batches, the first of which ends with the 1500th byte
abbrev in_two_batches : LiveFlow
in_two_batches = record twice { batches = record { end = 1500; first = 805; second = Some 803 } }

-- both are carried
pub both_batches_are_carried : (carried_of in_two_batches).batches
    ≡ record { end = 1500; first = 805; second = Some 803 }
both_batches_are_carried = refl

-- where all bytes of the first are granted the second is carried as the first
pub the_second_batch_is_carried_as_the_first :
    (carried_of (record twice { batches = record { end = 1000; first = 805; second = Some 803 } })).batches
    ≡ one_request 3000 803
the_second_batch_is_carried_as_the_first = refl

-- and none where nothing waits
pub no_batch_is_carried : (carried_of (with_replaced 0 890 in_two_batches)).batches ≡ no_batches
no_batch_is_carried = refl

-- each of these carried flows has the state that it is of
pub a_carried_flow_has_its_state : (flow_state base (carried_of once) ≡ flow_state base once)
    × (flow_state base (carried_of twice) ≡ flow_state base twice)
    × (flow_state base (carried_of (under_ceiling [])) ≡ flow_state base (under_ceiling []))
    × (flow_state base (carried_of reserving) ≡ flow_state base reserving)
    × (flow_state base (carried_of in_two_batches) ≡ flow_state base in_two_batches)
    × (flow_state base (carried_of (with_replaced 0 890 in_two_batches))
    ≡ flow_state base (with_replaced 0 890 in_two_batches))
a_carried_flow_has_its_state = (refl, refl, refl, refl, refl, refl)

-- what no history leaves: a level above the burst is cut to it, and bytes that were granted at no start are not carried
pub no_more_than_the_burst_is_left : carried_charges (Some 900) 1600 (Some (1280000 * 1600 + 1)) ≡ charge 900 0 ∷ []
no_more_than_the_burst_is_left = refl

pub no_grant_without_a_start_is_carried : (carried_grants None 1000 ≡ []) × (carried_charges None 1600 (Some 0) ≡ [])
no_grant_without_a_start_is_carried = (refl, refl)
