-- The words gone through are written.
use Rattle.std.proofs.Common.{◌≡◌, length}
use Rattle.periodic.specs.Bits.{bit_for, IsWritten}
use Rattle.periodic.proofs.bits.Bits.mark.Given as goal

abbrev pub invariant-loop-place : goal.invariant-loop-place
invariant-loop-place l = record {
  long : length l.self.words ≡ 16;
  written : IsWritten l.fn.self.words l.self.words l.start l.end (bit_for l.taken) l.place;
}
