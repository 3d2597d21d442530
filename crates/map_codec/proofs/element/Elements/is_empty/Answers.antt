-- No element is there where the vector has none.
use Rattle.std.proofs.Common.{arith}
use Rattle.std.proofs.lemmas.Grind.{common_steps}
use Rattle.map_codec.proofs.element.Elements.is_empty.Goals as goal

pub returns : goal.returns
returns c = grind (arith, common_steps)
