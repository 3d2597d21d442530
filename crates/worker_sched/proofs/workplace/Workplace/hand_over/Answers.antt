-- The entry and what the holder hands over are one turn.
use Rattle.worker_sched.proofs.Turned.{turns_over}
use Rattle.worker_sched.proofs.workplace.Workplace.hand_over.Goals as goal

pub returns-in-Ok-clause-given : goal.returns-in-Ok-clause-given
returns-in-Ok-clause-given c =
    turns_over c.args.self.now.config c.args.ticket c.in-Ok.held c.hand_over_held.result.0 c.in-Ok.desk
    c.in-Ok.ensures.entered c.args.self.now.keeps c.args.room c.hand_over_held.result.1 c.hand_over_held.ensures.given
