-- The elements so far are a front of those that the bytes hold, in the room that was made.
use Rattle.std.proofs.Common.{◌≡◌, take, vec_len}
use Rattle.std.specs.Vec.{vec_capacity}
use Rattle.map_codec.specs.Element.{elements_in}
use Rattle.map_codec.proofs.decoding.read_elements.Given as goal

abbrev pub invariant-loop-i : goal.invariant-loop-i
invariant-loop-i l =
    record {
      items : l.items.items ≡ take l.i (elements_in l.words);
      len : vec_len l.items ≡ l.i;
      room : vec_capacity l.items ≡ l.count;
    }
