-- What is met so far and by the elements that are left is what is met.
use Rattle.std.proofs.Common.{◌≡◌, drop, map}
use Rattle.map_build.specs.Reading.{met_over, met_in}
use Rattle.map_build.proofs.met.met_around.Given as goal

abbrev pub invariant-loop-i : goal.invariant-loop-i
invariant-loop-i l =
    met_over l.config l.spots l.waiting l.met.items (map (λ e. e.offset) (drop l.i l.elements))
    ≡ met_in l.config l.spots l.waiting l.elements
