-- One row at least.
use Rattle.report_picture.specs.Head.{size_text}
use Rattle.report_picture.proofs.head.put_size.Goals as goal

pub returns : goal.returns
unfolding size_text
returns g c = rw c.max.ensures at c.put_filled.ensures
