-- Steps are not much wider than there are frames.
use Rattle.std.proofs.Common.{length, arith}
use Rattle.report_picture.proofs.Widths.{width-most}
use Rattle.report_picture.proofs.picture.course_of.Goals as goal

pub returns-clause-narrow : goal.returns-clause-narrow
returns-clause-narrow c =
    omega (arith, width-most (length c.requires.1) c.args.over_time.now.width c.requires.2.width, c.requires.3)
