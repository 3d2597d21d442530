-- The entry and what the holder has forgotten are one turn.
use Rattle.worker_sched.proofs.Turned.{turns_forgetting}
use Rattle.worker_sched.proofs.workplace.Workplace.forget.Goals as goal

pub returns-clause-forgotten : goal.returns-clause-forgotten
returns-clause-forgotten c =
    turns_forgetting c.args.self.now.config c.args.ticket c.in_ok-held.held c.forget_held.result.0 c.in_ok-held.desk
    c.in_ok-held.ensures.entered c.args.self.now.keeps c.forget_held.result.1 c.forget_held.ensures.forgotten
