-- They are those that wait.
use Rattle.std.proofs.Common.{sym, ◌∙◌}
use Rattle.sched_report.proofs.Oldest.{first_heard-kept}
use Rattle.sched_report.proofs.service.Service.first_heard.Goals as goal

pub returns : goal.returns
returns c = λ k claims bytes grants is.
    c.first_of.ensures ∙ sym (first_heard-kept k c.args.self.now claims bytes grants is)
