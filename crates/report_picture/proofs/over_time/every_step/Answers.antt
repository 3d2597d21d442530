-- All frames are in some step.
use Rattle.report_picture.proofs.Widths.{all-steps}
use Rattle.report_picture.proofs.over_time.every_step.Goals as goal

pub returns : goal.returns
returns c = all-steps
