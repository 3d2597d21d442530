-- The greatest delay of the ranks so far.
use Rattle.std.proofs.Common.{◌≡◌, drop, max}
use Rattle.report_picture.specs.Scale.{most_of}
use Rattle.report_picture.proofs.scale.most_of.Given as goal

abbrev pub invariant-loop-told : goal.invariant-loop-told
invariant-loop-told l = most_of l.ranks ≡ max l.most (most_of (drop l.told-index l.ranks))
