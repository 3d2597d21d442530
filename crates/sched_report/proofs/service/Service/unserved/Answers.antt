-- Those that wait.
use Rattle.std.proofs.Common.{sym, ◌∙◌}
use Rattle.sched_report.proofs.Serving.{unserved-kept}
use Rattle.sched_report.proofs.service.Service.unserved.Goals as goal

pub returns-clause-waiting : goal.returns-clause-waiting
returns-clause-waiting c = c.len.ensures ∙ c.args.self.now.waiting.ok.0

pub returns-clause-unserved : goal.returns-clause-unserved
returns-clause-unserved c = λ k claims bytes grants is.
    c.len.ensures ∙ c.args.self.now.waiting.ok.0 ∙ sym (unserved-kept k c.args.self.now claims bytes grants is)
