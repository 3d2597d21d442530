-- Flows without a ceiling.
use Rattle.std.proofs.Common.{◌≡◌, ℕ, ◌<◌, ◌≤◌, true, arith}
use Rattle.std.specs.Prelude.{min}
use Rattle.minislots.specs.declared.config.Config.{Config}
use Rattle.minislots.specs.Units.{slots_for}
use Rattle.sched_calls.specs.FlowSpec.{takes_requests, rate_of, burst_of, peak_of, reserved_of}
use Rattle.flow_book.specs.Flows.{LiveFlow, outstanding, and_grant}
use Rattle.flow_book.specs.Ceiling.{KeepsCeiling}
use Rattle.flow_book.specs.Choice.{KeepsWith, MayTake, MayGrant, IsEligible}
use Rattle.flow_book.proofs.Reservation.{under-reserved}

-- a flow without a peak rate or a reservation keeps its ceilings where it keeps the other
pub KeepsWith-peakless : (c : Config) (f : LiveFlow) (start bytes : ℕ) → peak_of f.spec ≡ 0
    → reserved_of f.spec ≡ 0
    → KeepsCeiling c (rate_of f.spec) (burst_of f.spec) (and_grant f.sustained start bytes)
    → KeepsWith c f start bytes
KeepsWith-peakless c f start bytes peakless unreserved kept = record {
  sustained = kept;
  peak = λ limited. absurd (omega (arith, peakless));
  reserved = λ under. absurd (omega (arith, under-reserved c start f under, unreserved));
}

-- without a ceiling a flow may take what fits the room
pub MayTake-unlimited : (c : Config) (f : LiveFlow) (start room bytes : ℕ) → rate_of f.spec ≡ 0
    → peak_of f.spec ≡ 0 → reserved_of f.spec ≡ 0 → slots_for c bytes ≤ room → MayTake c f start room bytes
MayTake-unlimited c f start room bytes unlimited peakless unreserved fits = record {
  ceiling = KeepsWith-peakless c f start bytes peakless unreserved (λ limited. absurd (omega (arith, unlimited)));
  fits = fits;
}

-- without a ceiling a flow may be granted what is outstanding, below the cap and fits the room
pub MayGrant-unlimited : (c : Config) (f : LiveFlow) (start room bytes : ℕ) → rate_of f.spec ≡ 0
    → peak_of f.spec ≡ 0 → reserved_of f.spec ≡ 0 → 0 < bytes → bytes ≤ outstanding f → bytes ≤ c.grant_cap → slots_for c bytes ≤ room
    → MayGrant c f start room bytes
MayGrant-unlimited c f start room bytes unlimited peakless unreserved positive asked capped fits =
    record {
      positive = positive;
      asked = asked;
      capped = capped;
      taken = MayTake-unlimited c f start room bytes unlimited peakless unreserved fits;
    }

-- without a ceiling a flow is eligible where the quantum, or all that is outstanding, fits the room
pub IsEligible-unlimited : (c : Config) (f : LiveFlow) (start room : ℕ) → takes_requests f.spec ≡ true
    → rate_of f.spec ≡ 0 → peak_of f.spec ≡ 0 → reserved_of f.spec ≡ 0 → 0 < outstanding f → slots_for c (min (outstanding f) c.quantum) ≤ room
    → IsEligible c start room f
IsEligible-unlimited c f start room serves unlimited peakless unreserved waits fits =
    record {
      serves = serves;
      waits = waits;
      takes = MayTake-unlimited c f start room (min (outstanding f) c.quantum) unlimited peakless unreserved fits;
    }
