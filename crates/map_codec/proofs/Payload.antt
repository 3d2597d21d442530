-- What is read in bytes with no fault is well formed and spelled so, and what is spelled is read again.
use Rattle.std.proofs.Common.{◌≡◌, ℕ, ◌+◌, ◌*◌, ◌%◌, ◌≤◌, false, ltb, List, [], ◌∷◌, ◌++◌}
use Rattle.std.proofs.Common.{length, get_or, drop, Some, None, Err, refl, sym, ap, ◌∙◌, arith}
use Rattle.std.specs.List.{flat_map}
use Rattle.std.specs.Int.{w32, to_be_bytes}
use Rattle.std.proofs.lemmas.Bool.{eqb-true, eq-eqb, ne_eqb, ltb-false, le-ltb, not-false}
use Rattle.std.proofs.lemmas.List.{drop-drop, get_or-drop, length-drop}
use Rattle.std.proofs.lemmas.Nat.{be_bytes_4, from_be_bytes-to_be_bytes_4}
use Rattle.map_codec.specs.declared.wire_map.WireMap.{WireMap}
use Rattle.map_codec.specs.Element.{bytes_of, number_at, elements_in, no_element}
use Rattle.map_codec.specs.WireMap.{header, spelling, map_in, IsWellFormed, IsPayload}
use Rattle.map_codec.specs.WireMap.{HasOneValue, IsReadBack}
use Rattle.map_codec.specs.declared.fault.DecodeFault.{DecodeFault}
use Rattle.map_codec.specs.declared.fault.DecodeFault.TheVariants.{TooMany, WrongLength}
use Rattle.map_codec.specs.DecodeFault.{first_of, count_in, length_faults}
use Rattle.map_codec.specs.DecodeFault.{elements_fault, fault_of, checked, IsExact}
use Rattle.map_codec.proofs.Checked.{fault_from_checked}
use Rattle.map_codec.proofs.Least.{all_none, none_of_both, none_if}
use Rattle.map_codec.proofs.Nulls.{ascends_from_none, descends_at-none, nulls_one, repeats_null_at-none}
use Rattle.map_codec.proofs.Faults.{AreFine, fine_from_none, elements_fault-fine}
use Rattle.map_codec.proofs.Spelling.{length-spelling, in_range_at}
use Rattle.map_codec.proofs.Words.{IsBytes, IsBytes-four, length-elements_in, flat_map-elements_in}
use Rattle.map_codec.proofs.Words.{in_range-elements_in, elements_in-flat_map}

-- what is read in a spelling is what was spelled
pub map_in-spelling : IsReadBack
unfolding map_in spelling header
map_in-spelling m fits =
    let start = from_be_bytes-to_be_bytes_4 m.alloc_start fits.fits.alloc_start in
    let ack = from_be_bytes-to_be_bytes_4 m.ack fits.fits.ack in
    let elements = elements_in-flat_map m.elements fits.in_range in
    rw (start, ack, elements) refl

-- so a spelling is that of one MAP
pub one_value : HasOneValue
one_value m n m-fits n-fits same = sym (map_in-spelling m m-fits) ∙ ap map_in same ∙ map_in-spelling n n-fits

four : (xs : List ℕ) → 4 ≤ length xs
    → get_or xs 0 0 ∷ get_or xs 1 0 ∷ get_or xs 2 0 ∷ get_or xs 3 0 ∷ drop 4 xs ≡ xs
four [] le = absurd (omega arith)
four (a ∷ []) le = absurd (omega arith)
four (a ∷ b ∷ []) le = absurd (omega arith)
four (a ∷ b ∷ c ∷ []) le = absurd (omega arith)
four (a ∷ b ∷ c ∷ d ∷ rest) le = refl

-- four bytes from a place on, and what stands after them
pub four_at : (bytes : List ℕ) (at : ℕ) → at + 4 ≤ length bytes
    → get_or bytes at 0 ∷ get_or bytes (at + 1) 0 ∷ get_or bytes (at + 2) 0 ∷ get_or bytes (at + 3) 0
    ∷ drop (at + 4) bytes
    ≡ drop at bytes
four_at bytes at le =
    let here : get_or (drop at bytes) 0 0 ≡ get_or bytes at 0 =
    get_or-drop at bytes 0 0 ∙ ap (λ i. get_or bytes i 0) (omega arith) in
    let one = get_or-drop at bytes 1 0 in
    let two = get_or-drop at bytes 2 0 in
    let three = get_or-drop at bytes 3 0 in
    let whole = four (drop at bytes) (omega (arith, length-drop at bytes)) in
    rw (here, one, two, three, drop-drop 4 at bytes) at whole

-- the number in four bytes from a place on has these bytes
pub number_takes : (bytes : List ℕ) (at : ℕ) → IsBytes bytes → at + 4 ≤ length bytes
    → to_be_bytes w32 (number_at bytes at) ++ drop (at + 4) bytes ≡ drop at bytes
number_takes bytes at fits le =
    let text =
    get_or bytes at 0 ∷ get_or bytes (at + 1) 0 ∷ get_or bytes (at + 2) 0 ∷ get_or bytes (at + 3) 0 ∷ [] in
    let are_bytes = IsBytes-four _ _ _ _ (fits at) (fits (at + 1)) (fits (at + 2)) (fits (at + 3)) in
    let back : to_be_bytes w32 (number_at bytes at) ≡ text =
    be_bytes_4 text (number_at bytes at) refl are_bytes refl in
    ap (λ (xs : List ℕ). xs ++ drop (at + 4) bytes) back ∙ four_at bytes at le

-- a length of 16 bytes and four for each element counted
pub record IsLong (bytes : List ℕ) : Type 0 where
  pub count : count_in bytes ≤ 240
  pub whole : length bytes ≡ 16 + 4 * count_in bytes

-- bytes in whose length no fault is found are as long as they say
pub long_from_none : (bytes : List ℕ) → first_of (length_faults bytes) ≡ None → IsLong bytes
long_from_none bytes e =
    let (short, (many, (wrong, end))) = all_none (length_faults bytes) e in
    record {
      count = ltb-false _ _ (none_if _ TooMany many);
      whole = eqb-true _ _ (not-false _ (none_if _ WrongLength wrong));
    }

-- and in bytes as long as they say none is found
pub length_faults-none : (bytes : List ℕ) → IsLong bytes → first_of (length_faults bytes) ≡ None
length_faults-none bytes long =
    let short : ltb (length bytes) 16 ≡ false = le-ltb _ _ (omega (arith, long.whole)) in
    rw (short, le-ltb _ _ long.count, eq-eqb _ _ long.whole) refl

IsBytes-drop : (n : ℕ) (bytes : List ℕ) → IsBytes bytes → IsBytes (drop n bytes)
IsBytes-drop n bytes fits i = rw get_or-drop (fits (n + i))

-- as many elements are read as are counted
pub length-elements_in-count : (bytes : List ℕ) → IsLong bytes
    → length (elements_in (drop 16 bytes)) ≡ count_in bytes
length-elements_in-count bytes long =
    omega (arith, length-elements_in (drop 16 bytes), length-drop 16 bytes, long.whole)

-- bytes as long as they say are the spelling of what is read in them
pub spelling-map_in : (bytes : List ℕ) → IsBytes bytes → IsLong bytes → spelling (map_in bytes) ≡ bytes
unfolding spelling header map_in
spelling-map_in bytes fits long =
    let rest = flat_map bytes_of (elements_in (drop 16 bytes)) in
    let fours : length (drop 16 bytes) % 4 ≡ 0 = omega (arith, length-drop 16 bytes, long.whole) in
    let last : rest ≡ drop 16 bytes =
    flat_map-elements_in (drop 16 bytes) (IsBytes-drop 16 bytes fits) fours in
    let front = λ (k : ℕ) (xs : List ℕ). get_or bytes 0 0 ∷ get_or bytes 1 0 ∷ k ∷ get_or bytes 3 0 ∷ xs in
    let backoffs = λ (xs : List ℕ).
    get_or bytes 12 0 ∷ get_or bytes 13 0 ∷ get_or bytes 14 0 ∷ get_or bytes 15 0 ∷ xs in
    let ack = λ (xs : List ℕ). to_be_bytes w32 (number_at bytes 8) ++ xs in
    let start = λ (xs : List ℕ). to_be_bytes w32 (number_at bytes 4) ++ xs in
    let from_12 : backoffs rest ≡ drop 12 bytes =
    ap backoffs last ∙ four_at bytes 12 (omega (arith, long.whole)) in
    let from_8 : ack (backoffs rest) ≡ drop 8 bytes =
    ap ack from_12 ∙ number_takes bytes 8 fits (omega (arith, long.whole)) in
    let from_4 : start (ack (backoffs rest)) ≡ drop 4 bytes =
    ap start from_8 ∙ number_takes bytes 4 fits (omega (arith, long.whole)) in
    ap (λ (k : ℕ). front k (start (ack (backoffs rest)))) (length-elements_in-count bytes long)
    ∙ ap (front (get_or bytes 2 0)) from_4
    ∙ four_at bytes 0 (omega (arith, long.whole))

-- what is read in bytes with no fault is well formed
pub map_in_is_well_formed : (bytes : List ℕ) → IsBytes bytes → IsLong bytes
    → AreFine (elements_in (drop 16 bytes)) → IsWellFormed (map_in bytes)
unfolding map_in
map_in_is_well_formed bytes fits long fine =
    record {
      fits = record {
        channel = fits 0;
        ucd_count = fits 1;
        reserved = fits 3;
        alloc_start = omega (arith, fits 4, fits 5, fits 6, fits 7);
        ack = omega (arith, fits 8, fits 9, fits 10, fits 11);
        ranging_start = fits 12;
        ranging_end = fits 13;
        data_start = fits 14;
        data_end = fits 15;
      };
      count = omega (arith, length-elements_in-count bytes long, long.count);
      in_range = in_range-elements_in (drop 16 bytes) (IsBytes-drop 16 bytes fits) fine.no_expansion;
      one_null = nulls_one (elements_in (drop 16 bytes)) fine.no_other fine.some_null;
      ascends = ascends_from_none (elements_in (drop 16 bytes)) fine.no_descent;
    }

-- the elements of a well formed MAP are fine
pub fine_from_well_formed : (m : WireMap) → IsWellFormed m → AreFine m.elements
fine_from_well_formed m fits =
    record {
      no_expansion = λ i lt.
          let in_range = in_range_at m.elements i no_element fits.in_range lt in
          ne_eqb _ _ (λ e. absurd (omega (arith, e, in_range.iuc)));
      no_descent = descends_at-none m.elements fits.ascends;
      some_null = λ e. absurd (omega (arith, e, fits.one_null));
      no_other = repeats_null_at-none m.elements fits.one_null;
    }

-- a spelling has no fault
pub fault_of-spelling : (m : WireMap) → IsWellFormed m → fault_of (spelling m) ≡ None
unfolding fault_of spelling header
fault_of-spelling m fits =
    let long : IsLong (spelling m) = record { count = fits.count; whole = length-spelling m } in
    let fine : elements_fault (elements_in (flat_map bytes_of m.elements)) ≡ None =
    ap elements_fault (elements_in-flat_map m.elements fits.in_range)
    ∙ elements_fault-fine m.elements (fine_from_well_formed m fits) in
    rw (length_faults-none (spelling m) long) fine

-- what is read in bytes with no fault, and its spelling
pub read_from_none : (bytes : List ℕ) → IsBytes bytes → fault_of bytes ≡ None
    → IsWellFormed (map_in bytes) × (bytes ≡ spelling (map_in bytes))
unfolding fault_of
read_from_none bytes fits e =
    let es = elements_in (drop 16 bytes) in
    let parts = none_of_both (first_of (length_faults bytes)) (elements_fault es) e in
    let long = long_from_none bytes parts.0 in
    let well = map_in_is_well_formed bytes fits long (fine_from_none es parts.1) in
    (well, sym (spelling-map_in bytes fits long))

-- bytes have no fault exactly where they are a payload
pub exact : IsExact
exact bytes fits =
    let reads : fault_of bytes ≡ None → IsPayload bytes =
    λ e. let read = read_from_none bytes fits e in (map_in bytes, read.0, read.1) in
    (reads, λ (m, well, is). ap fault_of is ∙ fault_of-spelling m well)

-- where the tests do not pass, the bytes are no spelling
pub checked-spelling : (bytes : List ℕ) (fault : DecodeFault) → Err fault ≡ checked (fault_of bytes)
    → (m : WireMap) → IsWellFormed m → bytes ≡ spelling m → ⊥
checked-spelling bytes fault e m well is =
    let none : fault_of bytes ≡ None = ap fault_of is ∙ fault_of-spelling m well in
    let some : fault_of bytes ≡ Some fault = fault_from_checked (fault_of bytes) fault e in
    cc
