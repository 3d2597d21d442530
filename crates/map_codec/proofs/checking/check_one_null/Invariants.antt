-- Before the place reached no Null stands after another.
use Rattle.std.proofs.Common.{◌≡◌, ℕ, ◌<◌, false, take, ltb}
use Rattle.map_codec.specs.Element.{nulls}
use Rattle.map_codec.specs.DecodeFault.{repeats_null_at}
use Rattle.map_codec.proofs.checking.check_one_null.Given as goal

abbrev pub invariant-loop-i : goal.invariant-loop-i
invariant-loop-i l =
    record {
      none : (k : ℕ) → k < l.i → repeats_null_at l.elements k ≡ false;
      is_met : l.is_met ≡ ltb 0 (nulls (take l.i l.elements));
    }
