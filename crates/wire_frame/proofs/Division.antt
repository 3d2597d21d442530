-- Division by a generator: every list has one remainder, and a register that is shifted comes to it.
use Rattle.std.proofs.Common.{◌≡◌, ℕ, zero, suc, ◌+◌, ◌*◌, ◌/◌, ◌%◌, ◌^◌, ◌≤◌, Bool, true, false}
use Rattle.std.proofs.Common.{List, [], ◌∷◌, ◌++◌, length, bit_xor, refl, sym, ap, ap₂, ◌∙◌, arith, length-append}
use Rattle.std.proofs.Common.{zero-mul, one-mul, zero-add}
use Rattle.std.proofs.Math.ListN.{length-replicate}
use Rattle.std.specs.Int.Bits.{xor_assoc, xor_self}
use Rattle.wire_frame.specs.Polynomial.{zeros, plus, add, scaled, generator, product, IsRemainder}
use Rattle.wire_frame.specs.Register.{shift, shifts}
use Rattle.wire_frame.proofs.Shifts.{shift_past}
use Rattle.wire_frame.proofs.Values.{value, value_add, length-add, value_append, value_zeros}

plus_assoc : (a b c : Bool) → plus (plus a b) c ≡ plus a (plus b c)
plus_assoc true true true = refl
plus_assoc true true false = refl
plus_assoc true false c = refl
plus_assoc false b c = refl

plus_twice : (a b : Bool) → plus a (plus a b) ≡ b
plus_twice true true = refl
plus_twice true false = refl
plus_twice false b = refl

plus_false : (a : Bool) → plus (plus a false) false ≡ a
plus_false true = refl
plus_false false = refl

-- in a sum of three lists of bits it does not matter which two are added first
pub add_assoc_of : (p q r : List Bool) → add (add p q) r ≡ add p (add q r)
unfolding add
add_assoc_of [] q r = refl
add_assoc_of (a ∷ p) [] r = refl
add_assoc_of (a ∷ p) (b ∷ q) [] = refl
add_assoc_of (a ∷ p) (b ∷ q) (c ∷ r) = ap₂ (λ x y. x ∷ y) (plus_assoc a b c) (add_assoc_of p q r)

-- what is added twice is gone
add_twice : (x d : List Bool) → length x ≤ length d → add x (add x d) ≡ d
unfolding add
add_twice [] d h = refl
add_twice (a ∷ x) [] h = absurd (omega arith)
add_twice (a ∷ x) (b ∷ d) h = ap₂ (λ y z. y ∷ z) (plus_twice a b) (add_twice x d (omega arith))

-- zeros change nothing
pub add_zeros : (n : ℕ) (d : List Bool) → n ≤ length d → add (zeros n) d ≡ d
unfolding add
add_zeros zero d h = refl
add_zeros (suc n) [] h = absurd (omega arith)
add_zeros (suc n) (b ∷ d) h = ap (λ y. b ∷ y) (add_zeros n d (omega arith))

length-scaled : (bit : Bool) (g : List Bool) → length (scaled bit g) ≡ length g
length-scaled true g = refl
length-scaled false g = length-replicate (length g) false

scaled-cons : (bit : Bool) (low : List Bool) → scaled bit (generator low) ≡ bit ∷ scaled bit low
scaled-cons true low = refl
scaled-cons false low = refl

-- zeros behind a list leave its number
pub value_before_zeros : (p : List Bool) (n : ℕ) → value (p ++ zeros n) ≡ value p
value_before_zeros p n =
    value_append p (zeros n) ∙ ap (λ x. x * 2 ^ length p + value p) (value_zeros n)
    ∙ ap (λ x. x + value p) (zero-mul (2 ^ length p)) ∙ zero-add (value p)

-- the length of a product
pub length-product : (q low : List Bool) → length (product q low) ≡ length q + length low
unfolding product
length-product [] low = length-replicate (length low) false ∙ omega arith
length-product (b ∷ q) low =
    let rest = length-product q low in
    let front : length (scaled b (generator low) ++ zeros (length q)) ≡ suc (length low) + length q
    = length-append (scaled b (generator low)) (zeros (length q))
    ∙ ap₂ (λ x y. x + y) (length-scaled b (generator low)) (length-replicate (length q) false) in
    let same : length (scaled b (generator low) ++ zeros (length q)) ≡ length (false ∷ product q low) = omega arith in
    length-add (scaled b (generator low) ++ zeros (length q)) (false ∷ product q low) same ∙ omega arith

-- a generator in the register is gone after one shift
shift_scaled : (low : List Bool) (bit : Bool) → shift (value low) (value (scaled bit (generator low))) ≡ 0
unfolding shift value
shift_scaled low true =
    let half : (value low * 2 + 1) / 2 ≡ value low = omega arith in
    let odd : (value low * 2 + 1) % 2 ≡ 1 = omega arith in
    ap₂ (λ x y. bit_xor x (y * value low)) half odd ∙ ap (bit_xor (value low)) (one-mul (value low))
    ∙ xor_self (value low)
shift_scaled low false =
    ap (λ x. bit_xor (x / 2) (x % 2 * value low)) (value_zeros (length (generator low))) ∙ zero-mul (value low)

-- the number of a sum with two lists that begin with 0
value_three : (x p z : List Bool)
    → value (add (add x (false ∷ p)) (false ∷ z)) ≡ bit_xor (value x) (value (add p z) * 2)
unfolding value add
value_three x p z =
    value_add (add x (false ∷ p)) (false ∷ z)
    ∙ ap (λ y. bit_xor y (value (false ∷ z))) (value_add x (false ∷ p))
    ∙ xor_assoc (value x) (value (false ∷ p)) (value (false ∷ z))
    ∙ ap (bit_xor (value x)) (sym (value_add (false ∷ p) (false ∷ z)) ∙ omega arith)

-- the register that has the dividend comes to the remainder after as many shifts as the quotient is long
pub walk : (low q rest : List Bool)
    → shifts (value low) (length q) (value (add (product q low) (zeros (length q) ++ rest))) ≡ value rest
unfolding shifts product
walk low [] rest =
    value_add (zeros (length low)) rest ∙ ap (λ x. bit_xor x (value rest)) (value_zeros (length low))
walk low (b ∷ q) rest =
    let x = scaled b (generator low) ++ zeros (length q) in
    let tail = add (product q low) (zeros (length q) ++ rest) in
    let start : value (add (add x (false ∷ product q low)) (false ∷ (zeros (length q) ++ rest)))
    ≡ bit_xor (value (scaled b (generator low))) (value tail * 2)
    = value_three x (product q low) (zeros (length q) ++ rest)
    ∙ ap (λ y. bit_xor y (value tail * 2)) (value_before_zeros (scaled b (generator low)) (length q)) in
    ap (λ y. shifts (value low) (length q) (shift (value low) y)) start
    ∙ ap (shifts (value low) (length q)) (shift_past (value low) (value (scaled b (generator low))) (value tail))
    ∙ ap (λ y. shifts (value low) (length q) (bit_xor y (value tail))) (shift_scaled low b)
    ∙ walk low q rest

-- A remainder, and how long its quotient is
pub record Divided (low : List Bool) (n : ℕ) (dividend : List Bool) : Type 0 where
  pub rest : List Bool
  pub is : IsRemainder low dividend rest
  pub long : length is.quotient ≡ n

-- the head of a step of the division, and what is left
step_back : (low : List Bool) (b : Bool) (d q rest : List Bool)
    → length (scaled b low ++ zeros (length q)) ≤ length d
    → add (scaled b low ++ zeros (length q)) d ≡ add (product q low) (zeros (length q) ++ rest)
    → b ∷ d ≡ add (product (b ∷ q) low) (zeros (suc (length q)) ++ rest)
unfolding add product
step_back low b d q rest h e =
    let x = scaled b low ++ zeros (length q) in
    let z = zeros (length q) ++ rest in
    let front : scaled b (generator low) ++ zeros (length q) ≡ b ∷ x
    = ap (λ y. y ++ zeros (length q)) (scaled-cons b low) in
    let back : add (add x (product q low)) z ≡ d
    = add_assoc_of x (product q low) z ∙ ap (add x) (sym e) ∙ add_twice x d h in
    sym (ap (λ y. add (add y (false ∷ product q low)) (false ∷ z)) front
    ∙ ap₂ (λ y t. y ∷ t) (plus_false b) back)

-- there is always one
pub divide : (low : List Bool) (n : ℕ) (d : List Bool) → length d ≡ n + length low → Divided low n d
unfolding product
divide low zero d h =
    record {
      rest = d;
      is = record { quotient = []; degree = omega arith; is = sym (add_zeros (length low) d (omega arith)) };
      long = refl;
    }
divide low (suc n) [] h = absurd (omega arith)
divide low (suc n) (b ∷ d) h =
    let x = scaled b low ++ zeros n in
    let long_x : length x ≡ length low + n
    = length-append (scaled b low) (zeros n) ∙ ap₂ (λ y z. y + z) (length-scaled b low) (length-replicate n false) in
    let same : length x ≡ length d = omega arith in
    let below = divide low n (add x d) (length-add x d same ∙ omega arith) in
    let q = below.is.quotient in
    let as_long : zeros n ≡ zeros (length q) = ap zeros (sym below.long) in
    let made : add (scaled b low ++ zeros (length q)) d ≡ add (product q low) (zeros (length q) ++ below.rest)
    = ap (λ y. add (scaled b low ++ y) d) (sym as_long) ∙ below.is.is in
    let short : length (scaled b low ++ zeros (length q)) ≤ length d
    = rw (← as_long) (omega arith) in
    record {
      rest = below.rest;
      is = record {
        quotient = b ∷ q;
        degree = below.is.degree;
        is = step_back low b d q below.rest short made;
      };
      long = ap suc below.long;
    }
