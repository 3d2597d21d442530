-- What is told of the life at the place of the SID stays.
use Rattle.std.proofs.Common.{arith}
use Rattle.sched_report.proofs.LivesEach.{AreLives-set}
use Rattle.sched_report.proofs.lives.reserve_each.Goals as goal

pub returns-clause-same : goal.returns-clause-same
returns-clause-same c = λ k ls are.
    AreLives-set k c.args.lives.now ls are c.place_under-place.result c.index-lives-place.result c.reserve_for.new.self
    (omega (arith, c.if-place-lives.false)) (λ life is. c.reserve_for.ensures.same k life is)
