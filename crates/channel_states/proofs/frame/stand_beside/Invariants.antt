-- What the flows take of the frames gone through may stand together there.
use Rattle.std.proofs.Common.{ℕ, ◌<◌}
use Rattle.periodic.specs.Placement.{spots_in}
use Rattle.channel_states.specs.PossiblePlaces.{MayStandTogether}
use Rattle.periodic.specs.Carried.{placed_in}
use Rattle.channel_states.proofs.frame.stand_beside.Given as goal

abbrev pub invariant-loop-place : goal.invariant-loop-place
invariant-loop-place l = (place : ℕ) → place < l.place
    → MayStandTogether (spots_in l.config place (placed_in l.config l.flows))
