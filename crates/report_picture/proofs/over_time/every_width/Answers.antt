-- One width, and few steps.
use Rattle.report_picture.proofs.Widths.{has-one}
use Rattle.report_picture.proofs.over_time.every_width.Goals as goal

pub returns : goal.returns
returns c = has-one
