-- The first of those that are left is the first of all.
use Rattle.std.proofs.Common.{◌≡◌, drop}
use Rattle.map_build.specs.Reading.{first_to_meet}
use Rattle.map_build.proofs.met.first_to_meet.Given as goal

abbrev pub invariant-loop-place : goal.invariant-loop-place
invariant-loop-place l =
    first_to_meet l.met l.room l.place (drop l.place l.waiting) ≡ first_to_meet l.met l.room 0 l.waiting
