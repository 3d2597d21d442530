-- The elements so far stand in front, and the rest is as it was.
use Rattle.mapsched_c.specs.Map.{plain_element}
use Rattle.mapsched_c.proofs.Elements.{StandSoFar}
use Rattle.mapsched_c.proofs.maps.put_elements.Given as goal

abbrev pub invariant-loop-i : goal.invariant-loop-i
invariant-loop-i l = StandSoFar plain_element l.elements l.fn.out l.out l.i
