-- No element before the place reached is out of range.
use Rattle.std.proofs.Common.{◌≡◌, ℕ, ◌<◌, false}
use Rattle.map_codec.specs.MapFault.{is_out_at}
use Rattle.map_codec.proofs.checking.check_range.Given as goal

abbrev pub invariant-loop-i : goal.invariant-loop-i
invariant-loop-i l = (k : ℕ) → k < l.i → is_out_at l.elements k ≡ false
