-- A grant is short.
use Rattle.std.proofs.Common.{arith}
use Rattle.sched_report.proofs.service.end_of.Goals as goal

pub overflow_add-result : goal.overflow_add-result
overflow_add-result c = omega (arith, c.slots_for.ensures.small)

pub returns-clause-reach : goal.returns-clause-reach
returns-clause-reach c = omega (arith, c.slots_for.ensures.small, c.requires.reach)
