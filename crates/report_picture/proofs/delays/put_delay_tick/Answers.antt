-- A tick on the axis.
use Rattle.std.proofs.lemmas.Bool.{le-leb}
use Rattle.report_picture.specs.Delays.{delay_tick}
use Rattle.report_picture.proofs.delays.put_delay_tick.Goals as goal

pub returns : goal.returns
unfolding delay_tick
returns g c =
    rw (le-leb c.args.number c.args.scale.tenths c.if-number-scale.false)
    (rw c.place-x.ensures.value at c.put_filled.ensures)
