-- Whole milliseconds.
use Rattle.std.proofs.lemmas.Bool.{le-ltb}
use Rattle.report_picture.specs.Decades.{decade_mark}
use Rattle.report_picture.proofs.decades.put_decade_mark.Goals as goal

pub returns : goal.returns
unfolding decade_mark
returns g c =
    rw (le-ltb c.args.micros 1000 c.if-micros-lt1000.false) (rw c.from-2.ensures at c.put_filled-2.ensures)
