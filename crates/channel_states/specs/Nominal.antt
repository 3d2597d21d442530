-- What a flow's parameters say of its place, and its starts in one frame by that.
use Rattle.std.specs.Prelude.{◌≡◌, ℕ, ◌+◌, ◌≤◌, List, length}
use Rattle.std.specs.List.{AllByRecursion}
use Rattle.minislots.specs.declared.config.Config.{Config}
use Rattle.sched_calls.specs.declared.spec.FlowSpec.{FlowSpec}
use Rattle.sched_calls.specs.FlowSpec.{interval_frames, jitter_slots, periodic_slots, grants_of}
use Rattle.periodic.specs.Placement.{FollowFrom}
use Rattle.channel_states.specs.declared.nominal.Nominal.{Nominal}

-- The numbers are what the parameters say
pub record IsNominalOf (c : Config) (spec : FlowSpec) (n : Nominal) : Type 0 where
  pub interval : n.interval ≡ interval_frames c spec
  pub jitter : n.jitter ≡ jitter_slots c spec
  pub slots : n.slots ≡ periodic_slots c spec
  pub grants : n.grants ≡ grants_of spec

-- A start within the jitter after an offset, whose minislots end within the frame
pub record IsStartFrom (c : Config) (n : Nominal) (offset start : ℕ) : Type 0 where
  pub after_nominal : offset ≤ start
  pub within_jitter : start ≤ offset + n.jitter
  pub within_frame : start + n.slots ≤ c.frame

-- As many such starts as a nominal frame has, one after the other
pub record AreStartsFrom (c : Config) (n : Nominal) (offset : ℕ) (starts : List ℕ) : Type 0 where
  pub count : length starts ≡ n.grants
  pub in_turn : FollowFrom n.slots offset starts
  pub each : AllByRecursion (IsStartFrom c n offset) starts
