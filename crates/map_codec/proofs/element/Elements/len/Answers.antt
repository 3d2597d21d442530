-- All elements are counted.
use Rattle.std.proofs.Common.{rules}
use Rattle.map_codec.proofs.element.Elements.len.Goals as goal

pub returns : goal.returns
returns c = search rules
