-- The last grant is in the turn.
use Rattle.std.proofs.Common.{None}
use Rattle.flow_book.specs.Entry.{top_rank}
use Rattle.flow_book.proofs.opening.turn_from.Goals as goal

pub returns-in-Some-clause-turn : goal.returns-in-Some-clause-turn
returns-in-Some-clause-turn c =
    rw c.in-Some.is (c.turn_after.ensures.after (top_rank c.args.spec.now) c.args.sid None
    (rw c.top_rank.ensures at c.turn_of-turn.ensures))
