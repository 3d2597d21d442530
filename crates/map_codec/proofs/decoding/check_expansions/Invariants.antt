-- No expansion stands before the place reached.
use Rattle.std.proofs.Common.{◌≡◌, ℕ, ◌<◌, false}
use Rattle.map_codec.specs.Element.{elements_in}
use Rattle.map_codec.specs.DecodeFault.{expands_at}
use Rattle.map_codec.proofs.decoding.check_expansions.Given as goal

abbrev pub invariant-loop-i : goal.invariant-loop-i
invariant-loop-i l = (k : ℕ) → k < l.i → expands_at (elements_in l.words) k ≡ false
