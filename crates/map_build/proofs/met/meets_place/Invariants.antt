-- Whether one of those that are left is met is whether one of all is.
use Rattle.std.proofs.Common.{◌≡◌, drop}
use Rattle.map_build.specs.Reading.{meets_place}
use Rattle.map_build.proofs.met.meets_place.Given as goal

abbrev pub invariant-loop-x : goal.invariant-loop-x
invariant-loop-x l = meets_place (drop l.x-index l.met) l.place ≡ meets_place l.met l.place
