-- The law of the lock, at the desk.
use Rattle.std.proofs.Common.{rules}
use Rattle.sched_desk.proofs.laws.one_holder.Goals as goal

pub returns-clause-holder : goal.returns-clause-holder
returns-clause-holder c = search rules
