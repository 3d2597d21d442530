-- The elements so far are a front of those of the numbers, in the room that was made.
use Rattle.std.proofs.Common.{◌≡◌, length, map, take, vec_len}
use Rattle.std.specs.Vec.{vec_capacity}
use Rattle.mapsched_c.specs.Encode.{wire_element}
use Rattle.mapsched_c.proofs.encode.wire_elements.Given as goal

abbrev pub invariant-loop-i : goal.invariant-loop-i
invariant-loop-i l =
    record {
      items : l.items.items ≡ map wire_element (take l.i l.elements);
      len : vec_len l.items ≡ l.i;
      room : vec_capacity l.items ≡ length l.elements;
    }
