-- How long a spelling is, and how it is written piece by piece.
use Rattle.std.proofs.Common.{◌≡◌, ℕ, zero, suc, ◌+◌, ◌*◌, ◌<◌, List, [], ◌∷◌, ◌++◌, length}
use Rattle.std.proofs.Common.{get_or, take, drop, refl, sym, ap, ◌∙◌, arith, length-append}
use Rattle.std.specs.List.{flat_map, AllByRecursion}
use Rattle.std.proofs.lemmas.List.{take_at, drop_at, drop_all, drop-drop, flat_map_more, append-nil}
use Rattle.std.proofs.lemmas.List.{length-take, take_all, take_more, append_assoc}
use borrow.Rule.Slice.PartMut.{put_mid}
use Rattle.map_codec.specs.declared.element.Element.{Element}
use Rattle.map_codec.specs.declared.wire_map.WireMap.{WireMap}
use Rattle.map_codec.specs.Element.{bytes_of, IsInRange}
use Rattle.map_codec.specs.WireMap.{header, spelling}

-- four bytes for each element
pub length-flat_map-bytes_of : (es : List Element) → length (flat_map bytes_of es) ≡ 4 * length es
length-flat_map-bytes_of [] = refl
length-flat_map-bytes_of (e ∷ es) =
    omega (arith, length-append (bytes_of e) (flat_map bytes_of es), length-flat_map-bytes_of es)

-- 16 fixed bytes
pub length-header : (m : WireMap) → length (header m) ≡ 16
unfolding header
length-header m = refl

-- 16 bytes and four for each element
pub length-spelling : (m : WireMap) → length (spelling m) ≡ 16 + 4 * length m.elements
unfolding spelling
length-spelling m =
    let parts = length-append (header m) (flat_map bytes_of m.elements) in
    omega (arith, parts, length-header m, length-flat_map-bytes_of m.elements)

-- a piece written behind what was written before
pub written_more : (front piece old now after : List ℕ) (at : ℕ) → length front ≡ at
    → now ≡ front ++ drop at old → after ≡ take at now ++ piece ++ drop (at + length piece) now
    → after ≡ (front ++ piece) ++ drop (at + length piece) old
written_more front piece old now after at len was is =
    let before : take at now ≡ front = rw was (take_at front (drop at old) at len) in
    let behind : drop at now ≡ drop at old = rw was (drop_at front (drop at old) at len) in
    let beyond : drop (at + length piece) now ≡ drop (at + length piece) old =
    sym (drop-drop (length piece) at now)
    ∙ ap (drop (length piece)) behind
    ∙ drop-drop (length piece) at old in
    rw (is, before, beyond) refl

-- the bytes of one element more, behind the elements before it
pub written_elements_more : (es : List Element) (old now after : List ℕ) (i : ℕ) (d : Element)
    → i < length es
    → now ≡ flat_map bytes_of (take i es) ++ drop (4 * i) old
    → after ≡ take (4 * i) now ++ bytes_of (get_or es i d) ++ drop (4 * i + 4) now
    → after ≡ flat_map bytes_of (take (i + 1) es) ++ drop (4 * (i + 1)) old
written_elements_more es old now after i d lt was is =
    let so_far = take i es in
    let e = get_or es i d in
    let front = flat_map bytes_of so_far in
    let len : length front ≡ 4 * i = omega (arith, length-flat_map-bytes_of so_far, length-take i es) in
    let wrote : after ≡ (front ++ bytes_of e) ++ drop (4 * i + 4) old =
    written_more front (bytes_of e) old now after (4 * i) len was is in
    let pieces : front ++ bytes_of e ≡ flat_map bytes_of (take (i + 1) es) =
    flat_map_more bytes_of [] so_far e ∙ ap (flat_map bytes_of) (sym (take_more es i d lt)) in
    let next : 4 * i + 4 ≡ 4 * (i + 1) = omega arith in
    wrote ∙ rw (pieces, next) refl

-- all elements
pub written_all : (es : List Element) (old now : List ℕ) (i : ℕ) → i ≡ length es → length old ≡ 4 * length es
    → now ≡ flat_map bytes_of (take i es) ++ drop (4 * i) old
    → now ≡ flat_map bytes_of es
written_all es old now i all room is =
    let whole : take i es ≡ es = take_all i es (omega arith) in
    let none : drop (4 * i) old ≡ [] = drop_all (4 * i) old (omega arith) in
    is ∙ rw (whole, none) (append-nil (flat_map bytes_of es))

-- a part of a list as it was written
pub put_behind : (at k : ℕ) (old now : List ℕ) → length now ≡ k
    → put_mid at k old now ≡ take at old ++ now ++ drop (at + length now) old
put_behind at k old now len =
    let rest : drop k (drop at old) ≡ drop (at + length now) old =
    drop-drop k at old ∙ ap (λ n. drop (at + n) old) (sym len) in
    sym (append_assoc (take at old) now (drop k (drop at old))) ∙ ap (λ l. take at old ++ now ++ l) rest

-- the elements behind the fixed bytes, and with them the spelling
pub written_behind : (m : WireMap) (old now after : List ℕ)
    → now ≡ header m ++ drop 16 old
    → after ≡ take 16 now ++ flat_map bytes_of m.elements ++ drop (16 + length (flat_map bytes_of m.elements)) now
    → after ≡ spelling m ++ drop (length (spelling m)) old
unfolding spelling
written_behind m old now after was is =
    let parts = length-append (header m) (flat_map bytes_of m.elements) in
    let len : 16 + length (flat_map bytes_of m.elements) ≡ length (spelling m) = omega (arith, parts, length-header m) in
    written_more (header m) (flat_map bytes_of m.elements) old now after 16 (length-header m) was is ∙ rw len refl

-- each of the elements in range is in range
pub in_range_at : (es : List Element) (i : ℕ) (d : Element) → AllByRecursion IsInRange es → i < length es
    → IsInRange (get_or es i d)
in_range_at [] i d fits lt = absurd (omega arith)
in_range_at (e ∷ es) zero d fits lt = fits.0
in_range_at (e ∷ es) (suc i) d fits lt = in_range_at es i d fits.1 (omega arith)
