-- None of the minislots gone through is the one that is sought.
use Rattle.std.proofs.Common.{◌≡◌, ℕ, ◌*◌, ◌<◌, ◌≤◌}
use Rattle.periodic.specs.Bits.{bit_of}
use Rattle.periodic.proofs.bits.Bits.next_free.Given as goal

abbrev pub invariant-loop-place : goal.invariant-loop-place
invariant-loop-place l = (m : ℕ) → l.from ≤ m → m < l.place * 64 → bit_of l.self.words m ≡ 1
