-- The number of a late build is its own.
use Rattle.sched_lines.proofs.line.refusal_number.Goals as goal

pub returns-in-Late : goal.returns-in-Late
returns-in-Late c = rw c.in-Late.is
