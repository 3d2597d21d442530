-- The lawful MAP of a frame in which no flow is live, and for which no opportunity waits.
use Rattle.std.proofs.Common.{◌≡◌, ℕ, ◌-◌, ◌<◌, List, [], ◌∷◌, Some, slice_get, refl, inr, arith}
use Rattle.minislots.specs.declared.config.Config.{Config}
use Rattle.sched_calls.specs.declared.frame_map.FrameMap.{FrameMap}
use Rattle.sched_calls.specs.declared.opportunity.Header.{Header}
use Rattle.sched_calls.specs.declared.opportunity.Opportunity.{Opportunity}
use Rattle.map_build.specs.declared.purpose.Allocation.{Allocation}
use Rattle.map_build.specs.declared.purpose.Purpose.TheVariants.{Idle}
use Rattle.map_build.specs.Plan.{demand_at}
use Rattle.map_build.specs.FrameMap.{map_of, IsLawfulMap}

-- the frame is idle behind its request region
abbrev pub idle_plan : Config → List Allocation
idle_plan c = record { offset = c.req_slots; slots = c.frame - c.req_slots; purpose = Idle } ∷ []

-- the MAP of the request region, an idle and the Null
abbrev pub idle_map : Config → Header → ℕ → ℕ → FrameMap
idle_map c header start ack = map_of c (demand_at [] [] [] start) header ack (idle_plan c)

nothing-waits : (place : ℕ) (o : Opportunity) → slice_get [] place ≡ Some o → ⊥
nothing-waits place o is = absurd (cc)

-- it is lawful where no flow is live
pub IsLawfulMap-idle : (c : Config) (header : Header) (start ack : ℕ) → c.req_slots < c.frame →
    IsLawfulMap c (demand_at [] [] [] start) header ack (idle_map c header start ack)
IsLawfulMap-idle c header start ack room = (
  idle_plan c,
  record {
    each = (
      record {
        some_slots = omega arith;
        follows = omega arith;
        purpose = refl;
        first = (omega arith, ((λ place o may. nothing-waits place o may.waits), (inr tt, tt)));
      },
      tt,
    );
    whole = λ _. omega arith;
    due = λ _. tt;
    quiet = λ on. absurd (cc);
  },
  refl,
)
