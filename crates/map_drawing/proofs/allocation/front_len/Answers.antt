-- The place of the Null, or the end.
use Rattle.map_drawing.proofs.Fronts.{front_length-<}
use Rattle.map_drawing.proofs.allocation.front_len.Goals as goal

pub returns-clause-ends : goal.returns-clause-ends
returns-clause-ends c = λ one. rw (c.unwrap_or.ensures, c.null_place.ensures) (front_length-< c.args.elements.now one)
