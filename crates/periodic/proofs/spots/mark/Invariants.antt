-- The frames gone through are marked, and the others as they were; the bounds are such.
use Rattle.std.proofs.Common.{◌≡◌, length}
use Rattle.periodic.specs.Bits.{bit_for}
use Rattle.periodic.specs.Rows.{AreMarkedTo, AreBounds}
use Rattle.periodic.specs.Fields.{placed_of}
use Rattle.periodic.proofs.spots.mark.Given as goal

abbrev pub invariant-loop-place : goal.invariant-loop-place
invariant-loop-place l = record {
  marked : AreMarkedTo l.config (placed_of l.flow) (bit_for l.taken) l.fn.rows l.rows l.place;
  long : length l.widest.most ≡ 64;
  bounded : AreBounds l.config l.rows l.widest.most;
}
