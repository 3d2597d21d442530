-- Levels make a logarithmic axis.
use Rattle.report_picture.proofs.Octaves.{level-rises, level-doubles, axis-begins, axis-ends, axis-ordered}
use Rattle.report_picture.proofs.levels.every_level.Goals as goal

pub returns : goal.returns
returns c = record {
  rises = level-rises;
  doubles = level-doubles;
  begins = axis-begins;
  ends = axis-ends;
  ordered = axis-ordered;
}
