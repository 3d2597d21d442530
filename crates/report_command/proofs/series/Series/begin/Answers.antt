-- A part ends a length behind its beginning.
use Rattle.std.proofs.Common.{arith}
use Rattle.report_command.proofs.series.Series.begin.Goals as goal

pub overflow_add-self : goal.overflow_add-self
overflow_add-self c = omega (arith, c.ticks-ticks.ensures.few, c.part_ticks-part.ensures.few)
