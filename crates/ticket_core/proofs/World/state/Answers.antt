-- The state shown is that of the seat.
use Rattle.std.proofs.Common.{arith}
use Rattle.std.proofs.lemmas.Grind.{common_steps}
use Rattle.ticket_core.proofs.World.state.Goals as goal

pub returns-clause-shows : goal.returns-clause-shows
returns-clause-shows c = λ w is. grind (arith, common_steps)
