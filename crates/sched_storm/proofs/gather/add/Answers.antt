-- The first worker that was held, with one worker more.
use Rattle.std.proofs.Common.{rules}
use Rattle.sched_storm.proofs.gather.add.Goals as goal
use Rattle.sched_storm.proofs.gather.add.Goals.{in-Done, in-Held, in-Stopped}

pub returns-clause-held : goal.returns-clause-held
returns-clause-held c =
    elim c.match-worked.branch [
      | in-Done w ↦ search rules
      | in-Held w ↦ search rules
      | in-Stopped w ↦ search rules
    ]
