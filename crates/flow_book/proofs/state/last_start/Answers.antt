-- The start is one that a turn has.
use Rattle.std.proofs.Common.{arith}
use Rattle.flow_book.proofs.States.{start-fits}
use Rattle.flow_book.proofs.state.last_start.Goals as goal

pub overflow_cast-result : goal.overflow_cast-result
overflow_cast-result c =
    let turn = c.requires in omega (arith, start-fits turn.0 turn.1 turn.2 c.args.turn turn.3)
