-- The text of a whole number is a number.
use Rattle.std.proofs.Common.{sym, subst, arith}
use Rattle.json.specs.Print.{IsNumber}
use Rattle.history_writing.proofs.JsonNumbers.{IsNumber-decimal}
use Rattle.history_writing.proofs.history.count.put_number.Goals as goal

pub number-requires : goal.number-requires
number-requires c =
    subst IsNumber (sym c.format.ensures.text) (IsNumber-decimal c.args.number (omega (arith, c.ranges.number.fits)))

pub number-requires-then-number-lt100 : goal.number-requires-then-number-lt100
number-requires-then-number-lt100 c =
    subst IsNumber (sym c.format-then-number-lt100.ensures.text)
    (IsNumber-decimal c.args.number (omega (arith, c.ranges.number.fits)))
