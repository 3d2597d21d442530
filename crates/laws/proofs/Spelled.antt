-- The spelling of a MAP is of bytes.
use Rattle.std.proofs.Common.{ℕ, zero, suc, ◌/◌, ◌%◌, ◌^◌, List, [], ◌∷◌, ◌++◌, length}
use Rattle.std.proofs.Common.{lit<, arith}
use Rattle.std.specs.List.{flat_map}
use Rattle.std.specs.Int.{w32, to_be_bytes}
use Rattle.hex.specs.Hex.{IsBytes}
use Rattle.map_codec.specs.declared.element.Element.{Element}
use Rattle.map_codec.specs.declared.wire_map.WireMap.{WireMap}
use Rattle.map_codec.specs.Element.{bytes_of, word_of}
use Rattle.map_codec.specs.WireMap.{header, spelling, IsWellFormed}
use Rattle.map_codec.proofs.Words.{IsBytes-four}

IsBytes-append : (xs ys : List ℕ) → IsBytes xs → IsBytes ys → IsBytes (xs ++ ys)
IsBytes-append [] ys h k i = k i
IsBytes-append (x ∷ xs) ys h k zero = h 0
IsBytes-append (x ∷ xs) ys h k (suc i) = IsBytes-append xs ys (λ j. h (suc j)) k i

IsBytes-nil : IsBytes []
IsBytes-nil i = lit< tt

IsBytes-word : (n : ℕ) → IsBytes (to_be_bytes w32 n)
IsBytes-word n = IsBytes-four (n / 256 ^ 3 % 256) (n / 256 ^ 2 % 256) (n / 256 ^ 1 % 256) (n % 256)
    (omega arith) (omega arith) (omega arith) (omega arith)

IsBytes-elements : (es : List Element) → IsBytes (flat_map bytes_of es)
IsBytes-elements [] = IsBytes-nil
IsBytes-elements (e ∷ es) =
    IsBytes-append (bytes_of e) (flat_map bytes_of es) (IsBytes-word (word_of e)) (IsBytes-elements es)

-- the spelling of a well formed MAP is of bytes
pub IsBytes-spelling : (m : WireMap) → IsWellFormed m → IsBytes (spelling m)
unfolding spelling header
IsBytes-spelling m formed =
    let fits = formed.fits in
    let count = formed.count in
    let front = IsBytes-four m.channel m.ucd_count (length m.elements) m.reserved fits.channel fits.ucd_count
    (omega (arith, count)) fits.reserved in
    let back = IsBytes-four m.ranging_start m.ranging_end m.data_start m.data_end fits.ranging_start fits.ranging_end
    fits.data_start fits.data_end in
    let last = m.ranging_start ∷ m.ranging_end ∷ m.data_start ∷ m.data_end ∷ [] in
    let times = to_be_bytes w32 m.ack ++ last in
    let behind = to_be_bytes w32 m.alloc_start ++ times in
    IsBytes-append (header m) (flat_map bytes_of m.elements)
    (IsBytes-append (m.channel ∷ m.ucd_count ∷ length m.elements ∷ m.reserved ∷ []) behind front
    (IsBytes-append (to_be_bytes w32 m.alloc_start) times (IsBytes-word m.alloc_start)
    (IsBytes-append (to_be_bytes w32 m.ack) last (IsBytes-word m.ack) back)))
    (IsBytes-elements m.elements)
