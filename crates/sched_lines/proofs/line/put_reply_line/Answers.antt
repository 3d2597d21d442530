-- The text of a reply, and the newline.
use Rattle.std.proofs.Common.{arith}
use Rattle.std.proofs.lemmas.Grind.{common_steps}
use Rattle.sched_lines.specs.Line.{line_of}
use Rattle.sched_lines.proofs.line.put_reply_line.Goals as goal

pub returns : goal.returns
unfolding line_of
returns g c = grind (arith, common_steps)
