-- A number has at most twenty digits.
use Rattle.std.proofs.Common.{arith}
use Rattle.sched_lines.proofs.Numerals.{length-decimal}
use Rattle.sched_lines.proofs.page.Page.push_many.Goals as goal

pub write_digits-start-requires : goal.write_digits-start-requires
write_digits-start-requires c = (length-decimal c.args.number c.ranges.number.fits, omega arith)
