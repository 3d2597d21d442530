-- The lines of the seats, of the two numbers and of the worker that was held.
use Rattle.std.proofs.Common.{arith}
use Rattle.std.proofs.lemmas.Grind.{common_steps}
use Rattle.sched_storm.specs.StormLines.{tally_text}
use Rattle.sched_storm.proofs.lines.put_tally.Goals as goal

pub returns : goal.returns
unfolding tally_text
returns g c = grind (arith, common_steps)
