-- All elements are shown.
use Rattle.std.proofs.Common.{rules}
use Rattle.map_codec.proofs.element.Elements.as_slice.Goals as goal

pub returns : goal.returns
returns c = search rules
