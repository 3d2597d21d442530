-- The bytes of the elements so far stand in front of what was there.
use Rattle.std.proofs.Common.{◌≡◌, ◌*◌, ◌++◌, take, drop}
use Rattle.std.specs.List.{flat_map}
use Rattle.map_codec.specs.Element.{bytes_of}
use Rattle.map_codec.proofs.encoding.put_elements.Given as goal

abbrev pub invariant-loop-i : goal.invariant-loop-i
invariant-loop-i l = l.out ≡ flat_map bytes_of (take l.i l.elements) ++ drop (4 * l.i) l.fn.out
