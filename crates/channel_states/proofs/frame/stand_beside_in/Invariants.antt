-- What is taken, and what the flows take that are left, is what all flows take.
use Rattle.std.proofs.Common.{◌≡◌, ◌++◌, drop}
use Rattle.periodic.specs.Placement.{spots_in}
use Rattle.channel_states.specs.PossiblePlaces.{MayStandTogether}
use Rattle.periodic.specs.Carried.{placed_in}
use Rattle.channel_states.specs.Taken.{taken_in}
use Rattle.channel_states.proofs.frame.stand_beside_in.Given as goal

abbrev pub invariant-loop-flow : goal.invariant-loop-flow
invariant-loop-flow l = record {
  together : MayStandTogether (taken_in l.taken);
  whole : taken_in l.taken ++ spots_in l.config l.place (placed_in l.config (drop l.flow-index l.flows))
      ≡ spots_in l.config l.place (placed_in l.config l.flows);
}
