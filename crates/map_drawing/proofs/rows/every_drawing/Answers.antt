-- The allocation that has a minislot is the last that has begun.
use Rattle.map_drawing.proofs.Places.{has_its_slots}
use Rattle.map_drawing.proofs.rows.every_drawing.Goals as goal

pub returns : goal.returns
returns c = has_its_slots
