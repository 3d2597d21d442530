-- The text of a whole number is a number.
use Rattle.std.proofs.Common.{sym, subst, arith}
use Rattle.json.specs.Print.{IsNumber}
use Rattle.history_writing.proofs.JsonNumbers.{IsNumber-decimal}
use Rattle.report_writing.proofs.cell.put_count.Goals as goal

pub number-requires : goal.number-requires
number-requires c =
    subst IsNumber (sym c.format.ensures.text) (IsNumber-decimal c.args.number (omega (arith, c.ranges.number.fits)))
