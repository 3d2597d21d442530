-- The present grants are those of the flow and of the others.
use Rattle.std.proofs.Common.{◌≡◌, ◌+◌, arith}
use Rattle.sched_calls.specs.FlowSpec.{grants_of}
use Rattle.sched_history.specs.Refusal.{periodic_grants, other_grants}
use Rattle.sched_history.specs.Life.{flows_of}
use Rattle.sched_history.proofs.lives.Finding.{flows_of-channel}
use Rattle.sched_history.proofs.state.Changing.{other-grants}
use Rattle.sched_history.proofs.scheduler.present.Present.other_grants.Goals as goal

all : (c : goal.After-from) → other_grants c.args.self.now.config c.args.sid c.args.self.now.history
    + grants_of c.args.old ≡ periodic_grants c.args.self.now.config c.args.self.now.history
all c =
    let past = c.args.self.now in
    other-grants (flows_of past.config past.history) c.args.sid c.args.old
    (flows_of-channel past.config past.history).ascend c.requires.present

pub overflow_sub-result : goal.overflow_sub-result
overflow_sub-result c = omega (arith, all c, c.periodic_grants.ensures.value, c.from.ensures, c.grants.ensures)

pub returns-clause-value : goal.returns-clause-value
returns-clause-value c = omega (arith, all c, c.periodic_grants.ensures.value, c.from.ensures, c.grants.ensures)

pub returns-clause-most : goal.returns-clause-most
returns-clause-most c = omega (arith, c.periodic_grants.ensures.most)
