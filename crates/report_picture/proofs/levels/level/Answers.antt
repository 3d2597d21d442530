-- No number is high.
use Rattle.std.proofs.Common.{arith}
use Rattle.report_picture.proofs.Octaves.{small-at}
use Rattle.report_picture.proofs.levels.level.Goals as goal

pub returns-clause-small : goal.returns-clause-small
returns-clause-small c =
    let first = c.from.ensures in
    omega (arith, first, small-at c.args.number c.octave-octave.result (omega arith) c.octave-octave.ensures.value)
