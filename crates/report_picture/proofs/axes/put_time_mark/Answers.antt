-- At its place.
use Rattle.report_picture.specs.Axes.{time_mark}
use Rattle.report_picture.proofs.axes.put_time_mark.Goals as goal

pub returns : goal.returns
unfolding time_mark
returns g c = rw (c.place-x.ensures.value, c.thousandth.ensures.value, c.quarters.ensures.value) at c.put_filled.ensures
