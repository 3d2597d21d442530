-- What the fields of a placed flow stand for.
use Rattle.std.specs.Prelude.{◌≡◌, ℕ, List}
use Rattle.minislots.specs.declared.config.Config.{Config}
use Rattle.minislots.specs.Config.{IsLawful}
use Rattle.sched_calls.specs.FlowSpec.{interval_frames, periodic_slots, grants_of}
use Rattle.sched_calls.specs.declared.placement.Placement.{Placement}
use Rattle.periodic.specs.declared.spots.PlacedFlow.{PlacedFlow}
use Rattle.periodic.specs.Placement.{Placed, phase_of}
use Rattle.periodic.specs.Table.{IsSoundPlaced}

-- the placement of this reference and these starts
abbrev pub placement_at : ℕ → List ℕ → Placement
placement_at reference starts = record { reference = reference; starts = starts }

-- the placed flow that the fields stand for
abbrev pub placed_of : PlacedFlow → Placed
placed_of f = record { sid = f.sid; spec = f.spec; placement = f.placement; rests = f.rests }

-- What a placed flow keeps beside its placement follows from both, on a lawful channel
pub record KeepsTimes (c : Config) (f : PlacedFlow) : Type 0 where
  pub lawful : IsLawful c
  pub interval : f.interval ≡ interval_frames c f.spec
  pub phase : f.phase ≡ phase_of c f.spec f.placement
  pub slots : f.slots ≡ periodic_slots c f.spec
  pub poll_slots : f.poll_slots ≡ c.poll_slots
  pub grants : f.grants ≡ grants_of f.spec

-- A flow that is soundly placed, and what is kept beside its placement
pub record IsSoundFlow (c : Config) (f : PlacedFlow) : Type 0 where
  pub sound : IsSoundPlaced c (placed_of f)
  pub times : KeepsTimes c f
