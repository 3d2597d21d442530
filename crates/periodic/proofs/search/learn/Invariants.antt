-- The bounds are such, one for each frame of the longest cycle.
use Rattle.std.proofs.Common.{◌≡◌, length}
use Rattle.periodic.specs.Rows.{AreBounds}
use Rattle.periodic.proofs.search.learn.Given as goal

abbrev pub invariant-loop-index : goal.invariant-loop-index
invariant-loop-index l = record {
  long : length l.widest.most ≡ 64;
  bounded : AreBounds l.config l.rows l.widest.most;
}
