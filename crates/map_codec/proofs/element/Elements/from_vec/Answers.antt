-- The elements of the vector.
use Rattle.std.proofs.Common.{rules}
use Rattle.map_codec.proofs.element.Elements.from_vec.Goals as goal

pub returns : goal.returns
returns c = search rules
