-- None waits any more.
use Rattle.std.proofs.Common.{refl, arith}
use Rattle.sched_report.proofs.Serving.{IsServiceOf-superseded, few_served}
use Rattle.sched_report.proofs.service.Service.supersede.Goals as goal

pub overflow_add-self : goal.overflow_add-self
overflow_add-self c =
    let r = c.requires in
    omega (arith, few_served r.0 c.args.self.now r.1 r.2 r.3 r.4, c.unserved.ensures.waiting, r.5)

pub returns-clause-superseded : goal.returns-clause-superseded
returns-clause-superseded c = λ k claims bytes grants is.
    IsServiceOf-superseded k c.args.self.now _ claims bytes grants is refl refl refl
    (omega (arith, c.unserved.ensures.waiting)) refl c.clear.ensures.items refl
    (omega (arith, is.room, c.clear.ensures.len))
