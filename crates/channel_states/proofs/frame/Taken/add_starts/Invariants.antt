-- What is taken, and what is to be taken from the starts that are left on, is what is to be taken.
use Rattle.std.proofs.Common.{◌≡◌, ◌++◌, drop, map}
use Rattle.channel_states.specs.PossiblePlaces.{MayStandTogether}
use Rattle.channel_states.specs.Taken.{taken_in, spot_from}
use Rattle.channel_states.proofs.frame.Taken.add_starts.Given as goal

abbrev pub invariant-loop-start : goal.invariant-loop-start
invariant-loop-start l = record {
  together : MayStandTogether (taken_in l.self);
  whole : taken_in l.self ++ map (spot_from l.flow l.slots) (drop l.start-index l.starts)
      ≡ taken_in l.fn.self ++ map (spot_from l.flow l.slots) l.starts;
}
