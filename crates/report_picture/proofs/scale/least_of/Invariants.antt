-- The least delay of the ranks so far.
use Rattle.std.proofs.Common.{◌≡◌, drop}
use Rattle.report_picture.specs.Scale.{least_of, lesser}
use Rattle.report_picture.proofs.scale.least_of.Given as goal

abbrev pub invariant-loop-told : goal.invariant-loop-told
invariant-loop-told l = least_of l.ranks ≡ lesser l.least (least_of (drop l.told-index l.ranks))
