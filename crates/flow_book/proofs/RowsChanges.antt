-- Worked examples of requests that replace others, and of flows that change.
use Rattle.std.proofs.Common.{◌≡◌, ℕ, ◌*◌, [], ◌∷◌, false, true, refl, lit<, lit≤, arith}
use Rattle.sched_calls.specs.declared.spec.FlowSpec.TheVariants.{BestEffort}
use Rattle.flow_book.specs.Flows.{LiveFlow, charges_of, granted, outstanding}
use Rattle.flow_book.specs.Reserved.{with_grant}
use Rattle.flow_book.specs.Book.{with_asked, with_replaced, with_spec}
use Rattle.flow_book.specs.Shown.{waits, since}
use Rattle.flow_book.specs.Bucket.{IsLevel}
use Rattle.flow_book.specs.Choice.{IsAmount, IsEligible, is_before}
use Rattle.sched_calls.proofs.Base.{base}
use Rattle.flow_book.proofs.FirstGrant.{KeepsCeiling-first}
use Rattle.flow_book.proofs.Profile.{one_request}
use Rattle.flow_book.proofs.RowsCeiling.{grant, limited, kept}
use Rattle.flow_book.proofs.Unlimited.{KeepsWith-peakless, MayGrant-unlimited}

-- a flow without a ceiling that asked 1000 bytes and was granted 544 of them
abbrev served_in_part : LiveFlow
served_in_part = record {
  sid = 17;
  spec = BestEffort 3 0 0 0 0 0;
  asked = 1000;
  batches = one_request 1000 801;
  grants = grant 844 544 ∷ [];
  sustained = charges_of (grant 844 544 ∷ []);
  peak = charges_of (grant 844 544 ∷ []);
  reserved = [];
}

-- it with 200 bytes in the place of the 456 that were outstanding
abbrev replaced : LiveFlow
replaced = with_replaced 200 841 served_in_part

-- it has asked 744 bytes then, of which 200 are outstanding
pub a_replace_leaves_its_bytes : (replaced.asked ≡ 744) × (granted replaced ≡ 544) × (outstanding replaced ≡ 200)
a_replace_leaves_its_bytes = (refl, refl, refl)

-- its request is the first batch alone: it waits since this one was heard
pub a_replaced_flow_waits_since_the_replace : (replaced.batches ≡ one_request 744 841) × (since replaced ≡ 841)
a_replaced_flow_waits_since_the_replace = (refl, refl)

-- and where a second batch stood too, which was heard earlier
pub a_replace_ends_both_batches :
    (with_replaced 200 841 (with_asked 100 802 served_in_part)).batches ≡ one_request 744 841
a_replace_ends_both_batches = refl

-- 100 bytes more are asked beside those
pub an_ask_adds_to_a_replace : ((with_asked 100 842 replaced).asked ≡ 844)
    × (outstanding (with_asked 100 842 replaced) ≡ 300) × (since (with_asked 100 842 replaced) ≡ 841)
an_ask_adds_to_a_replace = (refl, refl, refl)

-- in the next frame it is granted the 200 bytes
pub a_replaced_flow_is_granted_these_bytes : IsAmount base replaced 884 36 200
a_replaced_flow_is_granted_these_bytes = record {
  allowed = MayGrant-unlimited base replaced 884 36 200 refl refl refl (lit< tt) (lit≤ tt) (lit≤ tt) (lit≤ tt);
  greatest = λ more may. may.asked;
}

-- with no bytes in the place of those outstanding it has asked what it was granted, and does not wait
abbrev replaced_by_none : LiveFlow
replaced_by_none = with_replaced 0 841 served_in_part

pub a_replace_by_none_leaves_none : (replaced_by_none.asked ≡ 544) × (granted replaced_by_none ≡ 544)
    × (outstanding replaced_by_none ≡ 0) × (waits replaced_by_none ≡ false)
a_replace_by_none_leaves_none = (refl, refl, refl, refl)

-- so it is granted nothing, wherever
pub a_flow_that_asks_for_none_is_not_eligible : (start room : ℕ) → IsEligible base start room replaced_by_none → ⊥
a_flow_that_asks_for_none_is_not_eligible start room may = omega (arith, may.waits)

-- its next request is the first batch alone again
pub an_ask_after_none_is_the_first : (with_asked 100 842 replaced_by_none).batches ≡ one_request 644 842
an_ask_after_none_is_the_first = refl

-- the flow with two grants of 544 bytes, and bursts of 600 bytes from now on
abbrev other_burst : LiveFlow
other_burst = with_spec (BestEffort 3 64000 600 0 0 0) limited

-- its two grants came before the present period, of which the next one is the first
pub another_burst_begins_a_period : (other_burst.grants ≡ limited.grants) × (other_burst.sustained ≡ [])
    × ((with_grant base (grant 924 544) other_burst).sustained ≡ charges_of (grant 924 544 ∷ []))
another_burst_begins_a_period = (refl, refl, refl)

-- another rate begins one too, and so does the one before again
pub another_rate_begins_a_period : ((with_spec (BestEffort 3 128000 1600 0 0 0) limited).sustained ≡ [])
    × ((with_spec (BestEffort 3 64000 1600 0 0 0) (with_grant base (grant 924 544) other_burst)).sustained ≡ [])
another_rate_begins_a_period = (refl, refl)

-- at 924 it has the whole burst: 600 bytes
pub a_period_begins_full : IsLevel base 64000 600 other_burst.sustained 924 (1280000 * 600)
a_period_begins_full = record {
  left = record { empty = lit≤ tt; each = λ i lt. absurd (omega arith) };
  greatest = λ more leave. leave.empty;
}

-- so its third grant fills the room, as the two before
pub the_first_grant_of_a_period_fills_the_room : IsAmount base other_burst 924 36 544
the_first_grant_of_a_period_fills_the_room = record {
  allowed = record {
    positive = lit< tt;
    asked = lit≤ tt;
    capped = lit≤ tt;
    taken = record {
      ceiling = KeepsWith-peakless base other_burst 924 544 refl refl
          (KeepsCeiling-first base 64000 600 (grant 924 544) (lit≤ tt));
      fits = lit≤ tt;
    };
  };
  greatest = λ more may. omega (arith, may.taken.fits);
}

-- the flow with two grants, and priority 5 from now on
abbrev other_priority : LiveFlow
other_priority = with_spec (BestEffort 5 64000 1600 0 0 0) limited

-- its period goes on
pub another_priority_begins_no_period : other_priority.sustained ≡ charges_of limited.grants
another_priority_begins_no_period = refl

-- so its third grant has the 528 bytes that it had without the change
pub the_third_grant_after_another_priority_is_at_the_ceiling : IsAmount base other_priority 924 36 528
the_third_grant_after_another_priority_is_at_the_ceiling = record {
  allowed = record {
    positive = lit< tt;
    asked = lit≤ tt;
    capped = lit≤ tt;
    taken = record { ceiling = KeepsWith-peakless base other_priority 924 528 refl refl (λ positive. kept 528 (lit≤ tt)); fits = lit≤ tt };
  };
  greatest = λ more may. let all = may.taken.ceiling.sustained (lit< tt) 0 2 (lit≤ tt) (lit< tt) in omega arith;
}

-- it is served before a flow of priority 4, and was served after it
pub a_higher_priority_is_served_earlier :
    (is_before base 964 other_priority (record limited { sid = 16; spec = BestEffort 4 64000 1600 0 0 0 }) ≡ true)
    × (is_before base 964 limited (record limited { sid = 16; spec = BestEffort 4 64000 1600 0 0 0 }) ≡ false)
a_higher_priority_is_served_earlier = (refl, refl)
