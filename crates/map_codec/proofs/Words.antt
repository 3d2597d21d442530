-- The elements that bytes hold, and the bytes that elements take.
use Rattle.std.proofs.Common.{◌≡◌, ℕ, zero, suc, ◌+◌, ◌*◌, ◌/◌, ◌%◌, ◌^◌, ◌<◌, ◌≤◌, false}
use Rattle.std.proofs.Common.{List, [], ◌∷◌, ◌++◌, length, get_or, refl, ap, ◌∙◌, arith, lit<}
use Rattle.std.specs.List.{flat_map, AllByRecursion}
use Rattle.std.specs.Int.{w32, to_be_bytes, from_be_bytes}
use Rattle.std.proofs.lemmas.Bool.{eqb-false}
use Rattle.std.proofs.lemmas.Nat.{be_bytes_4, from_be_bytes-to_be_bytes_4}
use Rattle.map_codec.specs.declared.element.Element.{Element}
use Rattle.map_codec.specs.Element.{word_of, bytes_of, number_at, element_of}
use Rattle.map_codec.specs.Element.{elements_in, element_at, IsInRange}
use Rattle.map_codec.specs.DecodeFault.{expands_at}

-- each of the numbers is a byte
abbrev pub IsBytes : List ℕ → Type 0
IsBytes bytes = (i : ℕ) → get_or bytes i 0 < 256

-- an element of each four bytes
pub length-elements_in : (bytes : List ℕ) → length (elements_in bytes) ≡ length bytes / 4
unfolding elements_in
length-elements_in [] = refl
length-elements_in (a ∷ []) = refl
length-elements_in (a ∷ b ∷ []) = refl
length-elements_in (a ∷ b ∷ c ∷ []) = refl
length-elements_in (a ∷ b ∷ c ∷ d ∷ rest) = omega (arith, length-elements_in rest)

-- the i-th element is that of the i-th four bytes
pub element_at-elements_in : (i at : ℕ) (bytes : List ℕ) → at ≡ 4 * i → at + 4 ≤ length bytes
    → element_at (elements_in bytes) i ≡ element_of (number_at bytes at)
unfolding elements_in
element_at-elements_in i at [] is le = absurd (omega arith)
element_at-elements_in i at (a ∷ []) is le = absurd (omega arith)
element_at-elements_in i at (a ∷ b ∷ []) is le = absurd (omega arith)
element_at-elements_in i at (a ∷ b ∷ c ∷ []) is le = absurd (omega arith)
element_at-elements_in zero at (a ∷ b ∷ c ∷ d ∷ rest) is le = rw is refl
element_at-elements_in (suc i) at (a ∷ b ∷ c ∷ d ∷ rest) is le =
    let before : at ≡ suc (suc (suc (suc (4 * i)))) = omega arith in
    let one : at + 1 ≡ suc (suc (suc (suc (4 * i + 1)))) = omega arith in
    let two : at + 2 ≡ suc (suc (suc (suc (4 * i + 2)))) = omega arith in
    let three : at + 3 ≡ suc (suc (suc (suc (4 * i + 3)))) = omega arith in
    rw (one, two, three, before) (element_at-elements_in i (4 * i) rest refl (omega arith))

-- 32 bits are those of the element that they say
pub word_of-element_of : (word : ℕ) → word_of (element_of word) ≡ word
word_of-element_of word = omega arith

-- an element in range has 32 bits
pub word_fits : (e : Element) → IsInRange e → word_of e < 2 ^ 32
word_fits e fits = omega (arith, fits.sid, fits.iuc, fits.offset)

-- and is the one that they say
pub element_of-word_of : (e : Element) → IsInRange e → element_of (word_of e) ≡ e
element_of-word_of e fits =
    let sid : word_of e / 2 ^ 18 ≡ e.sid = omega (arith, fits.sid, fits.iuc, fits.offset) in
    let iuc : word_of e / 2 ^ 14 % 2 ^ 4 ≡ e.iuc = omega (arith, fits.sid, fits.iuc, fits.offset) in
    let offset : word_of e % 2 ^ 14 ≡ e.offset = omega (arith, fits.sid, fits.iuc, fits.offset) in
    rw (sid, iuc, offset) refl

-- elements in range are read in their bytes
pub elements_in-flat_map : (es : List Element) → AllByRecursion IsInRange es
    → elements_in (flat_map bytes_of es) ≡ es
unfolding elements_in
elements_in-flat_map [] fits = refl
elements_in-flat_map (e ∷ es) fits =
    let first : element_of (from_be_bytes w32 (to_be_bytes w32 (word_of e))) ≡ e =
    ap element_of (from_be_bytes-to_be_bytes_4 (word_of e) (word_fits e fits.0))
    ∙ element_of-word_of e fits.0 in
    ap (λ (x : Element). x ∷ elements_in (flat_map bytes_of es)) first
    ∙ ap (λ (xs : List Element). e ∷ xs) (elements_in-flat_map es fits.1)

IsBytes-rest : (a b c d : ℕ) (rest : List ℕ) → IsBytes (a ∷ b ∷ c ∷ d ∷ rest) → IsBytes rest
IsBytes-rest a b c d rest fits i = fits (suc (suc (suc (suc i))))

-- four bytes are bytes
pub IsBytes-four : (a b c d : ℕ) → a < 256 → b < 256 → c < 256 → d < 256 → IsBytes (a ∷ b ∷ c ∷ d ∷ [])
IsBytes-four a b c d fa fb fc fd zero = fa
IsBytes-four a b c d fa fb fc fd (suc zero) = fb
IsBytes-four a b c d fa fb fc fd (suc (suc zero)) = fc
IsBytes-four a b c d fa fb fc fd (suc (suc (suc zero))) = fd
IsBytes-four a b c d fa fb fc fd (suc (suc (suc (suc i)))) = lit< tt

-- bytes in whole fours are those of the elements read in them
pub flat_map-elements_in : (bytes : List ℕ) → IsBytes bytes → length bytes % 4 ≡ 0
    → flat_map bytes_of (elements_in bytes) ≡ bytes
unfolding elements_in
flat_map-elements_in [] fits whole = refl
flat_map-elements_in (a ∷ []) fits whole = absurd (omega arith)
flat_map-elements_in (a ∷ b ∷ []) fits whole = absurd (omega arith)
flat_map-elements_in (a ∷ b ∷ c ∷ []) fits whole = absurd (omega arith)
flat_map-elements_in (a ∷ b ∷ c ∷ d ∷ rest) fits whole =
    let word = from_be_bytes w32 (a ∷ b ∷ c ∷ d ∷ []) in
    let are_bytes = IsBytes-four a b c d (fits 0) (fits 1) (fits 2) (fits 3) in
    let first : bytes_of (element_of word) ≡ a ∷ b ∷ c ∷ d ∷ [] =
    ap (to_be_bytes w32) (word_of-element_of word)
    ∙ be_bytes_4 (a ∷ b ∷ c ∷ d ∷ []) word refl are_bytes refl in
    let others = flat_map-elements_in rest (IsBytes-rest a b c d rest fits) (omega arith) in
    ap (λ (xs : List ℕ). xs ++ flat_map bytes_of (elements_in rest)) first
    ∙ ap (λ (xs : List ℕ). a ∷ b ∷ c ∷ d ∷ xs) others

-- elements read in bytes are in range, but for expansions
pub in_range-elements_in : (bytes : List ℕ) → IsBytes bytes
    → ((i : ℕ) → i < length (elements_in bytes) → expands_at (elements_in bytes) i ≡ false)
    → AllByRecursion IsInRange (elements_in bytes)
unfolding elements_in
in_range-elements_in [] fits none = tt
in_range-elements_in (a ∷ []) fits none = tt
in_range-elements_in (a ∷ b ∷ []) fits none = tt
in_range-elements_in (a ∷ b ∷ c ∷ []) fits none = tt
in_range-elements_in (a ∷ b ∷ c ∷ d ∷ rest) fits none =
    let other = eqb-false _ _ (none 0 (omega arith)) in (
      record {
        sid = omega (arith, fits 0, fits 1, fits 2, fits 3);
        iuc = omega (arith, other);
        offset = omega arith;
      },
      in_range-elements_in rest (IsBytes-rest a b c d rest fits) (λ i lt. none (suc i) (omega arith)),
    )
