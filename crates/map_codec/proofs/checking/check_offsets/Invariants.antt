-- Before the place reached no Null stands and no offset descends.
use Rattle.std.proofs.Common.{◌≡◌, ℕ, ◌<◌, false, take}
use Rattle.map_codec.specs.Element.{nulls}
use Rattle.map_codec.specs.DecodeFault.{offset_before, descends_at}
use Rattle.map_codec.proofs.checking.check_offsets.Given as goal

abbrev pub invariant-loop-i : goal.invariant-loop-i
invariant-loop-i l =
    record {
      none : (k : ℕ) → k < l.i → descends_at l.elements k ≡ false;
      no_null : nulls (take l.i l.elements) ≡ 0;
      latest : l.latest ≡ offset_before l.elements l.i;
    }
