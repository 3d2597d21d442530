-- If all bytes so far are digits, what they spell is put.
use Rattle.std.proofs.Common.{◌≡◌, ◌*◌, take, drop}
use Rattle.std.specs.Prelude.{IsTrue}
use Rattle.hex.specs.Hex.{decode_pairs}
use Rattle.hex.proofs.Pairs.{prepend}
use Rattle.byte_tokens.proofs.hexadecimal.put_pairs.Given as goal

abbrev pub invariant-pairs : goal.invariant-pairs
invariant-pairs l =
    IsTrue l.good
    → decode_pairs 0 l.digits ≡ prepend (take l.i l.out) (decode_pairs (2 * l.i) (drop (2 * l.i) l.digits))
