-- Worked examples of data grants under a peak rate.
use Rattle.std.proofs.Common.{◌≡◌, ℕ, zero, suc, ◌+◌, ◌*◌, ◌≤◌, ◌<◌, [], refl, lit<, lit≤, arith}
use Rattle.sched_calls.specs.declared.spec.FlowSpec.TheVariants.{Polled, BestEffort}
use Rattle.flow_book.specs.Flows.{LiveFlow, charges_of, tokens_of}
use Rattle.flow_book.specs.Book.{with_spec}
use Rattle.flow_book.specs.Ceiling.{window, start_of}
use Rattle.flow_book.specs.Choice.{IsAmount, IsEligible}
use Rattle.sched_calls.proofs.Base.{base}
use Rattle.flow_book.proofs.RowsCeiling.{under_ceiling, three, kept, limited}

-- the flow with two grants of 544 bytes, without a ceiling but a peak rate of 64000 bits in a second
abbrev peaking : LiveFlow
peaking = record limited { spec = BestEffort 3 0 0 64000 0 0 }

-- each window of three grants with at most 450 bytes in the last keeps it: 1522 bytes and the 16 of 80 minislots
kept_by_peak : (bytes : ℕ) → bytes ≤ 450 → (i j : ℕ) → i ≤ j → j < 3
    → tokens_of (window (charges_of (three bytes)) i j) + start_of (charges_of (three bytes)) i * 4 * 64000
    ≤ start_of (charges_of (three bytes)) j * 4 * 64000 + 1280000 * 1522
kept_by_peak bytes few zero zero h k = lit≤ tt
kept_by_peak bytes few zero (suc zero) h k = lit≤ tt
kept_by_peak bytes few zero (suc (suc zero)) h k = omega arith
kept_by_peak bytes few (suc zero) zero h k = absurd (omega arith)
kept_by_peak bytes few (suc zero) (suc zero) h k = lit≤ tt
kept_by_peak bytes few (suc zero) (suc (suc zero)) h k = omega arith
kept_by_peak bytes few (suc (suc i)) zero h k = absurd (omega arith)
kept_by_peak bytes few (suc (suc i)) (suc zero) h k = absurd (omega arith)
kept_by_peak bytes few (suc (suc zero)) (suc (suc zero)) h k = omega arith
kept_by_peak bytes few (suc (suc (suc i))) (suc (suc zero)) h k = absurd (omega arith)
kept_by_peak bytes few i (suc (suc (suc j))) h k = absurd (omega arith)

-- so the third grant has 450 bytes at most, where the frame has room for 544
pub a_third_grant_is_at_the_peak_to_the_byte : IsAmount base peaking 924 36 450
a_third_grant_is_at_the_peak_to_the_byte = record {
  allowed = record {
    positive = lit< tt;
    asked = lit≤ tt;
    capped = lit≤ tt;
    taken = record {
      ceiling = record { sustained = λ limited. absurd (omega arith); peak = λ positive. kept_by_peak 450 (lit≤ tt); reserved = λ under. absurd (cc) };
      fits = lit≤ tt;
    };
  };
  greatest = λ more may. let all = may.taken.ceiling.peak (lit< tt) 0 2 (lit≤ tt) (lit< tt) in omega arith;
}

-- under a ceiling and a peak rate it has what both leave: 528 bytes by the one, and 450 by the other
abbrev both : LiveFlow
both = record limited { spec = BestEffort 3 64000 1600 64000 0 0 }

pub the_third_grant_keeps_both_ceilings : IsAmount base both 924 36 450
the_third_grant_keeps_both_ceilings = record {
  allowed = record {
    positive = lit< tt;
    asked = lit≤ tt;
    capped = lit≤ tt;
    taken = record {
      ceiling = record {
        sustained = λ positive. kept 450 (lit≤ tt);
        peak = λ positive. kept_by_peak 450 (lit≤ tt);
        reserved = λ under. absurd (cc);
      };
      fits = lit≤ tt;
    };
  };
  greatest = λ more may. let all = may.taken.ceiling.peak (lit< tt) 0 2 (lit≤ tt) (lit< tt) in omega arith;
}

-- a frame after its third grant it may take 8 bytes, less than the quantum, and is not eligible, polled or not
pub a_flow_at_its_peak_is_not_eligible :
    IsEligible base 964 36 (record (under_ceiling (three 450)) { spec = BestEffort 3 0 0 64000 0 0 }) → ⊥
a_flow_at_its_peak_is_not_eligible e =
    let all = e.takes.ceiling.peak (lit< tt) 0 3 (lit≤ tt) (lit< tt) in omega arith

pub a_polled_flow_at_its_peak_is_not_eligible :
    IsEligible base 964 36 (record (under_ceiling (three 450)) { spec = Polled 5000 0 0 0 64000 }) → ⊥
a_polled_flow_at_its_peak_is_not_eligible e =
    let all = e.takes.ceiling.peak (lit< tt) 0 3 (lit≤ tt) (lit< tt) in omega arith

-- another peak rate begins a period of it, and leaves that of the ceiling
pub another_peak_begins_its_period :
    ((with_spec (BestEffort 3 64000 1600 128000 0 0) both).peak ≡ [])
    × ((with_spec (BestEffort 3 64000 1600 128000 0 0) both).sustained ≡ charges_of both.grants)
another_peak_begins_its_period = (refl, refl)

-- and another rate leaves that of the peak rate
pub another_rate_leaves_the_peak :
    ((with_spec (BestEffort 3 128000 1600 64000 0 0) both).peak ≡ charges_of both.grants)
    × ((with_spec (BestEffort 3 128000 1600 64000 0 0) both).sustained ≡ [])
another_rate_leaves_the_peak = (refl, refl)
