-- The fixed bytes in their order.
use Rattle.std.proofs.Common.{rules}
use Rattle.map_codec.specs.WireMap.{header}
use Rattle.map_codec.proofs.encoding.fixed_bytes.Goals as goal

pub returns : goal.returns
unfolding header
returns c = search rules
