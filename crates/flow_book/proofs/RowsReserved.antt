-- Worked examples of a flow under its reservation, and of one that has used it up.
use Rattle.std.proofs.Common.{◌≡◌, List, [], ◌∷◌, true, false, refl, lit<, lit≤, arith}
use Rattle.sched_calls.specs.declared.spec.FlowSpec.TheVariants.{Polled, BestEffort}
use Rattle.flow_book.specs.declared.flow.Grant.{Grant}
use Rattle.flow_book.specs.Flows.{LiveFlow, charges_of}
use Rattle.flow_book.specs.Reserved.{wanted_of, is_under, waits_under, rank_at, with_grant}
use Rattle.flow_book.specs.Book.{with_spec}
use Rattle.flow_book.specs.Choice.{IsAmount, is_before}
use Rattle.sched_calls.proofs.Base.{base}
use Rattle.flow_book.proofs.Profile.{one_request}
use Rattle.flow_book.proofs.FirstGrant.{KeepsCeiling-first}
use Rattle.flow_book.proofs.RowsCeiling.{grant}

-- a flow of priority 3 that asked 3000 bytes, with these grants and these of them reserved: its reserved rate is 512000
-- bits in a second, which brings 8 bytes in 5 minislots, and its burst 64 bytes, the quantum
abbrev reserving : List Grant → List Grant → LiveFlow
reserving grants reserved = record {
  sid = 17;
  spec = BestEffort 3 0 0 0 512000 64;
  asked = 3000;
  batches = one_request 3000 801;
  grants = grants;
  sustained = charges_of grants;
  peak = charges_of grants;
  reserved = charges_of reserved;
}

-- it before any grant
abbrev fresh : LiveFlow
fresh = reserving [] []

-- it wants the quantum at least, which the burst has: it is under its reservation, with the rank of a polled flow
pub a_flow_without_a_reserved_grant_is_under_its_reservation : (wanted_of base fresh ≡ 64)
    × (is_under base 844 fresh ≡ true) × (rank_at base 844 fresh ≡ 8)
a_flow_without_a_reserved_grant_is_under_its_reservation = (refl, refl, refl)

-- it with a grant of 64 bytes at 844
abbrev served : LiveFlow
served = with_grant base (grant 844 64) fresh

-- which is a reserved one
pub a_grant_under_the_reservation_is_reserved : served ≡ reserving (grant 844 64 ∷ []) (grant 844 64 ∷ [])
a_grant_under_the_reservation_is_reserved = refl

-- 6 minislots later the rate has brought 9 bytes: the reservation is used up, and the priority is the rank
pub a_flow_that_has_used_it_up_has_its_priority : (is_under base 850 served ≡ false) × (rank_at base 850 served ≡ 3)
a_flow_that_has_used_it_up_has_its_priority = (refl, refl)

-- 39 minislots later it has brought 62 bytes, and 40 minislots later 64 bytes, the quantum
pub the_reservation_has_the_quantum_again : (is_under base 883 served ≡ false) × (rank_at base 883 served ≡ 3)
    × (is_under base 884 served ≡ true) × (rank_at base 884 served ≡ 8)
the_reservation_has_the_quantum_again = (refl, refl, refl, refl)

-- it waits under it before any grant, with the quantum again, and never where it waits for nothing
pub a_flow_waits_under_its_reservation : (waits_under base 844 fresh ≡ true) × (waits_under base 850 served ≡ false)
    × (waits_under base 884 served ≡ true) × (waits_under base 844 (record fresh { asked = 0 }) ≡ false)
a_flow_waits_under_its_reservation = (refl, refl, refl, refl)

-- it with a grant of 500 bytes at 850, one of a lower rank
abbrev served_lower : LiveFlow
served_lower = with_grant base (grant 850 500) served

-- that grant is no reserved one, nor is one at 883, and one at 884 is
pub a_grant_is_reserved_where_the_flow_is_under :
    (served_lower ≡ reserving (grant 844 64 ∷ grant 850 500 ∷ []) (grant 844 64 ∷ []))
    × ((with_grant base (grant 883 64) served).reserved ≡ charges_of (grant 844 64 ∷ []))
    × ((with_grant base (grant 884 64) served).reserved ≡ charges_of (grant 844 64 ∷ grant 884 64 ∷ []))
a_grant_is_reserved_where_the_flow_is_under = (refl, refl, refl)

-- so it takes nothing of the reservation, which has the quantum at 884 all the same
pub a_grant_of_a_lower_rank_takes_nothing_of_it : (is_under base 883 served_lower ≡ false)
    × (is_under base 884 served_lower ≡ true)
a_grant_of_a_lower_rank_takes_nothing_of_it = (refl, refl)

-- a flow that waits for 10 bytes alone is under its reservation 7 minislots later, when 11 bytes have come
pub a_flow_that_waits_for_few_bytes_is_under_it_earlier : (wanted_of base (record served { asked = 74 }) ≡ 10)
    × (is_under base 850 (record served { asked = 74 }) ≡ false)
    × (is_under base 851 (record served { asked = 74 }) ≡ true)
a_flow_that_waits_for_few_bytes_is_under_it_earlier = (refl, refl, refl)

-- without a reserved rate no flow is under a reservation, whatever its burst
pub a_flow_without_a_reserved_rate_has_its_priority :
    (is_under base 844 (record fresh { spec = BestEffort 3 0 0 0 0 64 }) ≡ false)
    × (rank_at base 844 (record fresh { spec = BestEffort 3 0 0 0 0 64 }) ≡ 3)
a_flow_without_a_reserved_rate_has_its_priority = (refl, refl)

-- a flow of priority 7 without a reservation, of a lower SID
abbrev seven : LiveFlow
seven = record fresh { sid = 16; spec = BestEffort 7 0 0 0 0 0 }

-- it is served after the flow as long as that is under its reservation, and before it where that is used up
pub a_reservation_is_served_before_priority_seven : (is_before base 844 fresh seven ≡ true)
    × (is_before base 844 seven fresh ≡ false) × (is_before base 850 served seven ≡ false)
    × (is_before base 850 seven served ≡ true) × (is_before base 884 served seven ≡ true)
a_reservation_is_served_before_priority_seven = (refl, refl, refl, refl, refl)

-- a polled flow of a lower SID, with these grants
abbrev polled : List Grant → LiveFlow
polled grants = record fresh { sid = 16; spec = Polled 5000 0 0 0 0; grants = grants }

-- under its reservation the flow is one of the polled ones: the last grant decides, and then the SID
pub a_reservation_is_served_with_the_polled_flows : (is_before base 844 fresh (polled []) ≡ false)
    × (is_before base 844 fresh (polled (grant 804 64 ∷ [])) ≡ true)
    × (is_before base 884 served (polled (grant 804 64 ∷ [])) ≡ false)
a_reservation_is_served_with_the_polled_flows = (refl, refl, refl)

-- another reserved burst alone begins a period behind the reserved grant, and leaves that of the ceiling
pub another_reserved_burst_begins_a_period :
    ((with_spec (BestEffort 3 0 0 0 512000 128) served_lower).reserved ≡ [])
    × ((with_spec (BestEffort 3 0 0 0 512000 128) served_lower).sustained ≡ charges_of served_lower.grants)
another_reserved_burst_begins_a_period = (refl, refl)

-- and so does another reserved rate alone: the flow is under its reservation again
pub another_reserved_rate_begins_a_period :
    ((with_spec (BestEffort 3 0 0 0 256000 64) served_lower).reserved ≡ [])
    × (is_under base 851 (with_spec (BestEffort 3 0 0 0 256000 64) served_lower) ≡ true)
another_reserved_rate_begins_a_period = (refl, refl)

-- another priority begins none, and neither does another ceiling, which begins its own behind both grants
pub another_priority_or_ceiling_begins_none :
    ((with_spec (BestEffort 5 0 0 0 512000 64) served_lower).reserved ≡ served_lower.reserved)
    × (is_under base 851 (with_spec (BestEffort 5 0 0 0 512000 64) served_lower) ≡ false)
    × ((with_spec (BestEffort 3 64000 1600 0 512000 64) served_lower).reserved ≡ served_lower.reserved)
    × ((with_spec (BestEffort 3 64000 1600 0 512000 64) served_lower).sustained ≡ [])
another_priority_or_ceiling_begins_none = (refl, refl, refl, refl)

-- under its reservation the flow is granted the 64 bytes that it has, where the frame has room for 544
pub a_reserved_grant_is_at_the_reservation_to_the_byte : IsAmount base fresh 844 36 64
a_reserved_grant_is_at_the_reservation_to_the_byte = record {
  allowed = record {
    positive = lit< tt;
    asked = lit≤ tt;
    capped = lit≤ tt;
    taken = record {
      ceiling = record {
        sustained = λ limited. absurd (omega arith);
        peak = λ limited. absurd (omega arith);
        reserved = λ under. KeepsCeiling-first base 512000 64 (grant 844 64) (lit≤ tt);
      };
      fits = lit≤ tt;
    };
  };
  greatest = λ more may. let all = may.taken.ceiling.reserved refl (lit< tt) 0 0 (lit≤ tt) (lit< tt) in omega arith;
}

-- and behind it all that fits, in its own rank
pub a_grant_of_a_lower_rank_fills_the_room : IsAmount base served 848 36 544
a_grant_of_a_lower_rank_fills_the_room = record {
  allowed = record {
    positive = lit< tt;
    asked = lit≤ tt;
    capped = lit≤ tt;
    taken = record {
      ceiling = record {
        sustained = λ limited. absurd (omega arith);
        peak = λ limited. absurd (omega arith);
        reserved = λ under. absurd (cc);
      };
      fits = lit≤ tt;
    };
  };
  greatest = λ more may. omega (arith, may.taken.fits);
}
