use Rattle.std.proofs.Common.{subst}
use Rattle.sched_history.specs.Machine.{MayLackMemory}
use Rattle.sched_history.proofs.auditing.auditor.Auditor.judge.Goals as goal

pub returns-in-Err-clause-memory : goal.returns-in-Err-clause-memory
returns-in-Err-clause-memory c = λ is.
    subst (λ p. MayLackMemory p.config p.history c.args.entry.now.call) c.self.view_is c.in-Err.ensures.memory
