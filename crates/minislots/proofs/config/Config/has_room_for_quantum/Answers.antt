-- A burst of the quantum fits behind the request region.
use Rattle.std.proofs.Common.{arith}
use Rattle.std.proofs.lemmas.Grind.{common_steps}
use Rattle.minislots.proofs.config.Config.has_room_for_quantum.Goals as goal

pub returns-then-is_within : goal.returns-then-is_within
returns-then-is_within c = grind (arith, common_steps)
