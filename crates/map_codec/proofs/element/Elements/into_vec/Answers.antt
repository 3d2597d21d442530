-- The vector of the elements.
use Rattle.std.proofs.Common.{rules}
use Rattle.map_codec.proofs.element.Elements.into_vec.Goals as goal

pub returns : goal.returns
returns c = search rules
