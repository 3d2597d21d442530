-- Lists of bits as numbers, the first bit in the lowest place.
use Rattle.std.proofs.Common.{◌≡◌, ℕ, zero, suc, ◌+◌, ◌*◌, ◌/◌, ◌%◌, ◌^◌, ◌<◌, Bool, true, false, not, ◌==◌}
use Rattle.std.proofs.Common.{List, [], ◌∷◌, ◌++◌, map, length, bit_xor, refl, sym, ap, ap₂, ◌∙◌, arith}
use Rattle.std.proofs.Common.{pow-suc, pow_pos}
use lib.Arith.{mod-mul}
use Rattle.std.specs.Int.Bits.{xor_block, xor_zero_r}
use Rattle.wire_frame.specs.Polynomial.{zeros, ones, plus, add, bits}
use Rattle.wire_frame.proofs.Shifts.{up_one}

-- a bit as a digit
abbrev pub digit : Bool → ℕ
digit true = 1
digit false = 0

-- a list of bits as a number
unfoldable pub value : List Bool → ℕ
value [] = 0
value (b ∷ bs) = value bs * 2 + digit b

-- a digit is 0 or 1
pub digit-lt : (b : Bool) → digit b < 2
digit-lt true = omega arith
digit-lt false = omega arith

digit_plus : (a b : Bool) → digit (plus a b) ≡ bit_xor (digit a) (digit b)
digit_plus true true = refl
digit_plus true false = refl
digit_plus false true = refl
digit_plus false false = refl

-- the sum of two lists is the exclusive or of their numbers
pub value_add : (p q : List Bool) → value (add p q) ≡ bit_xor (value p) (value q)
unfolding value add
value_add [] q = refl
value_add (a ∷ p) [] = sym (xor_zero_r (value p * 2 + digit a))
value_add (a ∷ p) (b ∷ q) =
    ap₂ (λ x y. x * 2 + y) (value_add p q) (digit_plus a b)
    ∙ sym (xor_block 1 (value p) (value q) (digit a) (digit b) (digit-lt a) (digit-lt b))

-- the sum of two lists of one length has that length
pub length-add : (p q : List Bool) → length p ≡ length q → length (add p q) ≡ length q
unfolding add
length-add [] q e = refl
length-add (a ∷ p) [] e = e
length-add (a ∷ p) (b ∷ q) e = ap suc (length-add p q (omega arith))

-- one list behind another
pub value_append : (p q : List Bool) → value (p ++ q) ≡ value q * 2 ^ length p + value p
unfolding value
value_append [] q = omega arith
value_append (b ∷ p) q =
    let rest = value_append p q in
    let up = up_one (value q) (length p) in
    omega (arith, rest, up)

-- a list of n bits is a number below 2^n
pub value-lt : (p : List Bool) → value p < 2 ^ length p
unfolding value
value-lt [] = omega arith
value-lt (b ∷ p) =
    let rest = value-lt p in
    let up = pow-suc 2 (length p) in
    let low = digit-lt b in
    omega (arith, rest, up, low)

-- bits that are all clear are 0
pub value_zeros : (n : ℕ) → value (zeros n) ≡ 0
unfolding value
value_zeros zero = refl
value_zeros (suc n) = let rest = value_zeros n in omega (arith, rest)

-- n bits that are all set are 2^n less 1
pub value_ones : (n : ℕ) → value (ones n) + 1 ≡ 2 ^ n
unfolding value
value_ones zero = refl
value_ones (suc n) =
    let rest = value_ones n in
    let up = pow-suc 2 n in
    omega (arith, rest, up)

-- all bits turned over: the two numbers add up to 2^n less 1
pub value_not : (p : List Bool) → value (map not p) + value p + 1 ≡ 2 ^ length p
unfolding value
value_not [] = refl
value_not (true ∷ p) =
    let rest = value_not p in
    let up = pow-suc 2 (length p) in
    omega (arith, rest, up)
value_not (false ∷ p) =
    let rest = value_not p in
    let up = pow-suc 2 (length p) in
    omega (arith, rest, up)

-- as many bits as before
pub length-not : (p : List Bool) → length (map not p) ≡ length p
length-not [] = refl
length-not (b ∷ p) = ap suc (length-not p)

digit_odd : (n : ℕ) → n < 2 → digit (n == 1) ≡ n
digit_odd zero h = refl
digit_odd (suc zero) h = refl
digit_odd (suc (suc n)) h = absurd (omega arith)

-- the low bits of a number
pub value_bits : (k n : ℕ) → value (bits k n) ≡ n % 2 ^ k
unfolding value bits
value_bits zero n = omega arith
value_bits (suc k) n =
    let rest = value_bits k (n / 2) in
    let low = digit_odd (n % 2) (omega arith) in
    let both = split_low k n in
    omega (arith, rest, low, both)
  where
    split_low : (k n : ℕ) → n % 2 ^ suc k ≡ n / 2 % 2 ^ k * 2 + n % 2
    split_low k n = ap (λ x. n % x) (pow-suc 2 k) ∙ mod-mul n (pow_pos k) (omega arith)

-- a number written with k bits has k bits
pub length-bits : (k n : ℕ) → length (bits k n) ≡ k
unfolding bits
length-bits zero n = refl
length-bits (suc k) n = ap suc (length-bits k (n / 2))

-- two lists of one length that are one number are one list
pub same_value : (p q : List Bool) → length p ≡ length q → value p ≡ value q → p ≡ q
unfolding value
same_value [] [] e v = refl
same_value [] (b ∷ q) e v = absurd (omega arith)
same_value (a ∷ p) [] e v = absurd (omega arith)
same_value (true ∷ p) (true ∷ q) e v = ap (λ x. true ∷ x) (same_value p q (omega arith) (omega arith))
same_value (false ∷ p) (false ∷ q) e v = ap (λ x. false ∷ x) (same_value p q (omega arith) (omega arith))
same_value (true ∷ p) (false ∷ q) e v = absurd (omega arith)
same_value (false ∷ p) (true ∷ q) e v = absurd (omega arith)
