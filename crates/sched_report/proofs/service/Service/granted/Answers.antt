-- They are kept.
use Rattle.sched_report.proofs.service.Service.granted.Goals as goal

pub returns : goal.returns
returns c = λ k claims bytes grants is. is.granted
