-- What the present meets is what the auditor's history does.
use Rattle.std.proofs.Common.{◌≡◌, subst}
use Rattle.std.specs.Result.{IfOk}
use Rattle.sched_history.specs.History.{IsStep}
use Rattle.sched_history.specs.Machine.{Past}
use Rattle.sched_history.specs.Reserves.{met_after}
use Rattle.sched_history.proofs.auditing.auditor.Auditor.met.Goals as goal

pub returns-clause-met : goal.returns-clause-met
returns-clause-met c =
    subst (λ (p : Past). IfOk c.met.result (λ met. IsStep p.config p.history c.args.entry.now.call c.args.entry.now.reply
    → met.items ≡ met_after p.config p.history c.args.entry.now.reply)) c.self.view_is c.met.ensures.met
