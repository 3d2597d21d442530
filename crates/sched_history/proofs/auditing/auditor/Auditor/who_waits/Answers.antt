-- Who waits at present is who does after the auditor's history.
use Rattle.std.proofs.Common.{◌≡◌, subst}
use Rattle.std.specs.Result.{IfOk}
use Rattle.sched_history.specs.Facts.{waits_by}
use Rattle.sched_history.specs.History.{IsStep}
use Rattle.sched_history.specs.Machine.{Past}
use Rattle.sched_history.proofs.auditing.auditor.Auditor.who_waits.Goals as goal

pub returns-clause-waits : goal.returns-clause-waits
returns-clause-waits c =
    subst (λ (p : Past). IfOk c.who_waits.result (λ sids. IsStep p.config p.history c.args.entry.now.call
    c.args.entry.now.reply → sids.items ≡ waits_by c.args.standing p.config p.history c.args.entry.now.reply))
    c.self.view_is c.who_waits.ensures.waits
