-- The last grant and the SID stand behind the rank in the number.
use Rattle.std.proofs.Common.{arith}
use Rattle.flow_book.proofs.Turns.{turn-in}
use Rattle.flow_book.proofs.flow.turn_in.Goals as goal

pub returns-clause-of : goal.returns-clause-of
returns-clause-of c = λ before sid last is.
    turn-in before last sid c.args.turn c.args.rank _ is (omega (arith, c.from.ensures))

pub returns-clause-value : goal.returns-clause-value
returns-clause-value c = omega (arith, c.from.ensures)
