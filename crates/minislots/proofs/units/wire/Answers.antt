-- The low 32 bits are the rest modulo 2^32.
use Rattle.std.proofs.Common.{arith}
use Rattle.std.proofs.lemmas.Grind.{common_steps}
use Rattle.minislots.proofs.units.wire.Goals as goal

pub returns : goal.returns
returns c = grind (arith, common_steps)
