-- The times and the windows, one after the other.
use Rattle.std.proofs.Common.{arith}
use Rattle.std.proofs.lemmas.Grind.{common_steps}
use Rattle.decode_command.specs.Table.{times_line}
use Rattle.decode_command.proofs.table.put_times.Goals as goal

pub returns : goal.returns
unfolding times_line
returns g c = grind (arith, common_steps)
