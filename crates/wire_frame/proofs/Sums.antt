-- What a checksum is as a number: the complement of the register after the message.
use Rattle.std.proofs.Common.{◌≡◌, ℕ, ◌+◌, ◌-◌, ◌^◌, ◌<◌, Bool, not}
use Rattle.std.proofs.Common.{List, ◌++◌, map, length, bit_xor, sym, ap, ap₂, ◌∙◌, arith, subst, length-append}
use Rattle.std.proofs.Common.{mod-eq_of_lt}
use Rattle.std.proofs.Math.ListN.{length-replicate}
use Rattle.std.specs.Int.Bits.{xor_comm}
use Rattle.wire_frame.specs.Polynomial.{zeros, ones, product, IsRemainder, bits}
use Rattle.wire_frame.specs.Checksum.{wire_bits, dividend, IsChecksum, HasOneSum}
use Rattle.wire_frame.specs.Register.{shifts}
use Rattle.wire_frame.proofs.Values.{value, value-lt, value_add, length-add, value_ones, value_not}
use Rattle.wire_frame.proofs.Values.{length-not, value_bits, length-bits, same_value}
use Rattle.wire_frame.proofs.Division.{value_before_zeros, length-product, walk, divide}

-- the register after a message
abbrev pub register : List Bool → List ℕ → ℕ
register low message =
    shifts (value low) (length (wire_bits message)) (bit_xor (2 ^ length low - 1) (value (wire_bits message)))

length-dividend : (w : ℕ) (message : List ℕ) → length (dividend w message) ≡ length (wire_bits message) + w
length-dividend w message =
    let n = length (wire_bits message) in
    let first : length (wire_bits message ++ zeros w) ≡ n + w
    = length-append (wire_bits message) (zeros w) ∙ ap (λ x. n + x) (length-replicate w _) in
    let second : length (ones w ++ zeros n) ≡ w + n
    = length-append (ones w) (zeros n) ∙ ap₂ (λ x y. x + y) (length-replicate w _) (length-replicate n _) in
    length-add (wire_bits message ++ zeros w) (ones w ++ zeros n) (omega arith) ∙ omega arith

value_dividend : (w : ℕ) (message : List ℕ)
    → value (dividend w message) ≡ bit_xor (2 ^ w - 1) (value (wire_bits message))
value_dividend w message =
    let n = length (wire_bits message) in
    let all = value_ones w in
    let full : value (ones w) ≡ 2 ^ w - 1 = omega (arith, all) in
    value_add (wire_bits message ++ zeros w) (ones w ++ zeros n)
    ∙ ap₂ bit_xor (value_before_zeros (wire_bits message) w) (value_before_zeros (ones w) n ∙ full)
    ∙ xor_comm (value (wire_bits message)) (2 ^ w - 1)

-- the length of a quotient is that of the message
quotient_length : (low : List Bool) (message : List ℕ) (rest : List Bool)
    → (r : IsRemainder low (dividend (length low) message) rest) → length r.quotient ≡ length (wire_bits message)
quotient_length low message rest r =
    let q = r.quotient in
    let n = length (wire_bits message) in
    let whole = length-dividend (length low) message in
    let made = length-product q low in
    let behind : length (zeros (length q) ++ rest) ≡ length q + length rest
    = length-append (zeros (length q)) rest ∙ ap (λ x. x + length rest) (length-replicate (length q) _) in
    let degree = r.degree in
    let total = length-add (product q low) (zeros (length q) ++ rest) (omega arith) in
    let is = ap length r.is in
    omega arith

-- a remainder of what is divided is the register after the message
pub remainder_is : (low : List Bool) (message : List ℕ) (rest : List Bool)
    → IsRemainder low (dividend (length low) message) rest → value rest ≡ register low message
remainder_is low message rest r =
    let long = quotient_length low message rest r in
    sym (ap₂ (shifts (value low)) (sym long) (sym (value_dividend (length low) message) ∙ ap value r.is)
    ∙ walk low r.quotient rest)

-- a number that is fits, as bits and complemented
value_sum : (w sum : ℕ) → sum < 2 ^ w → value (map not (bits w sum)) + sum + 1 ≡ 2 ^ w
value_sum w sum h =
    let all = value_not (bits w sum) in
    let same : value (bits w sum) ≡ sum = value_bits w sum ∙ mod-eq_of_lt h in
    let long : 2 ^ length (bits w sum) ≡ 2 ^ w = ap (λ x. 2 ^ x) (length-bits w sum) in
    omega (arith, all, same, long)

-- a checksum is the complement of the register
pub checksum_is : (low : List Bool) (message : List ℕ) (sum : ℕ)
    → IsChecksum low message sum → sum + register low message + 1 ≡ 2 ^ length low
checksum_is low message sum c =
    let whole = value_sum (length low) sum c.fits in
    let is = remainder_is low message (map not (bits (length low) sum)) c.remainder in
    omega (arith, whole, is)

-- and the complement of the register is a checksum
pub is_checksum : (low : List Bool) (message : List ℕ) (sum : ℕ)
    → sum + register low message + 1 ≡ 2 ^ length low → IsChecksum low message sum
is_checksum low message sum e =
    let fits : sum < 2 ^ length low = omega arith in
    let n = length (wire_bits message) in
    let d = divide low n (dividend (length low) message) (length-dividend (length low) message) in
    let is = remainder_is low message d.rest d.is in
    let whole = value_sum (length low) sum fits in
    let long : length (map not (bits (length low) sum)) ≡ length d.rest
    = length-not (bits (length low) sum) ∙ length-bits (length low) sum ∙ sym d.is.degree in
    let same : map not (bits (length low) sum) ≡ d.rest = same_value _ _ long (omega (arith, whole, is)) in
    record { fits = fits; remainder = rw same d.is }

-- so a message has one
pub same_sum : (low : List Bool) (message : List ℕ) (a b : ℕ)
    → IsChecksum low message a → IsChecksum low message b → a ≡ b
same_sum low message a b p q =
    let first = checksum_is low message a p in
    let second = checksum_is low message b q in
    omega (arith, first, second)

-- the register stays below 2 ^ w
pub register-lt : (low : List Bool) (message : List ℕ) → register low message < 2 ^ length low
register-lt low message =
    let n = length (wire_bits message) in
    let d = divide low n (dividend (length low) message) (length-dividend (length low) message) in
    let is = remainder_is low message d.rest d.is in
    let below : value d.rest < 2 ^ length low
    = subst (λ x. value d.rest < 2 ^ x) d.is.degree (value-lt d.rest) in
    omega (arith, is, below)

-- a message has one checksum, and no other
pub has_one_sum : (low : List Bool) → HasOneSum low
has_one_sum low message =
    let sum = 2 ^ length low - 1 - register low message in
    let below = register-lt low message in
    let is = is_checksum low message sum (omega (arith, below)) in
    (sum, is, λ other also. same_sum low message other sum also is)
