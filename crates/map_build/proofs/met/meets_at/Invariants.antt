-- Whether one of those that are left begins there is whether one of all does.
use Rattle.std.proofs.Common.{◌≡◌, drop}
use Rattle.map_build.specs.Reading.{meets_at}
use Rattle.map_build.proofs.met.meets_at.Given as goal

abbrev pub invariant-loop-x : goal.invariant-loop-x
invariant-loop-x l = meets_at (drop l.x-index l.met) l.offset ≡ meets_at l.met l.offset
