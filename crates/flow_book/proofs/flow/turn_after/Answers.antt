-- The rank and the SID stand at both ends of the number.
use Rattle.std.proofs.Common.{arith}
use Rattle.flow_book.proofs.Turns.{turn-after, turn-later}
use Rattle.flow_book.proofs.flow.turn_after.Goals as goal

pub returns-clause-after : goal.returns-clause-after
returns-clause-after c = λ rank sid last is.
    turn-after rank last sid c.args.turn c.args.start _ (omega arith) is (omega (arith, c.from.ensures))

pub returns-clause-later : goal.returns-clause-later
returns-clause-later c = λ rank sid last is late.
    turn-later rank last sid c.args.turn c.args.start _ is late (omega (arith, c.from.ensures))
