-- How the places of a state's flows stand beside one another.
use Rattle.std.specs.Prelude.{ℕ, ◌<◌, ◌≤◌, List, length}
use Rattle.minislots.specs.declared.config.Config.{Config}
use Rattle.sched_calls.specs.declared.state.FlowState.{FlowState}
use Rattle.periodic.specs.declared.TheConstants.{MAX_SPOTS}
use Rattle.periodic.specs.declared.placement.Spot.{Spot}
use Rattle.periodic.specs.Placement.{spots_in}
use Rattle.periodic.specs.Carried.{placed_in}
use Rattle.periodic.specs.Table.{AreApart}

-- No two of these spots of a frame have a minislot in common, and they are no more than a frame may have
pub record MayStandTogether (spots : List Spot) : Type 0 where
  pub apart : AreApart spots
  pub few : length spots ≤ MAX_SPOTS

-- so it is in each frame of the cycle with what the flows take there, those that rest too
abbrev pub StandBeside : Config → List FlowState → Type 0
StandBeside c flows = (place : ℕ) → place < c.cycle → MayStandTogether (spots_in c place (placed_in c flows))
