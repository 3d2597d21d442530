-- A register that takes bytes.
use Rattle.std.proofs.Common.{◌≡◌, ℕ, ◌+◌, ◌*◌, ◌/◌, ◌%◌, ◌^◌, ◌<◌, List, [], ◌∷◌, length, bit_xor}
use Rattle.std.proofs.Common.{take, get_or, refl, sym, ap, ap₂, ◌∙◌, length-append, mod-lt, mod-eq_of_lt, pow_pos}
use Rattle.std.specs.Int.Bits.{xor_assoc, xor_comm, xor_zero_r, xor_shifted}
use Rattle.wire_frame.specs.Polynomial.{bits}
use Rattle.wire_frame.specs.Checksum.{wire_bits}
use Rattle.wire_frame.specs.Register.{shifts, after_byte, after_bytes}
use Rattle.std.proofs.lemmas.List.Sums.{fold_more}
use Rattle.wire_frame.proofs.Shifts.{shifts_past, shifts_join, byte_step}
use Rattle.wire_frame.proofs.Values.{value, value_append, value_bits, length-bits}

-- the bits of a byte and those behind it
pub value_first : (b : ℕ) (bs : List ℕ) → value (wire_bits (b ∷ bs)) ≡ value (wire_bits bs) * 2 ^ 8 + b % 2 ^ 8
unfolding wire_bits
value_first b bs =
    value_append (bits 8 b) (wire_bits bs)
    ∙ ap₂ (λ x y. value (wire_bits bs) * 2 ^ x + y) (length-bits 8 b) (value_bits 8 b)

-- the same as a sum of polynomials
value_first_sum : (b : ℕ) (bs : List ℕ)
    → value (wire_bits (b ∷ bs)) ≡ bit_xor (b % 2 ^ 8) (value (wire_bits bs) * 2 ^ 8)
value_first_sum b bs =
    let rest = value (wire_bits bs) in
    value_first b bs
    ∙ sym (xor_shifted rest 8 (b % 2 ^ 8) (mod-lt b (pow_pos 8)))
    ∙ xor_comm (rest * 2 ^ 8) (b % 2 ^ 8)

length-first : (b : ℕ) (bs : List ℕ) → length (wire_bits (b ∷ bs)) ≡ 8 + length (wire_bits bs)
unfolding wire_bits
length-first b bs = length-append (bits 8 b) (wire_bits bs) ∙ ap (λ x. x + length (wire_bits bs)) (length-bits 8 b)

-- byte by byte is bit by bit
pub after_bytes_is : (g r : ℕ) (bytes : List ℕ)
    → after_bytes g r bytes ≡ shifts g (length (wire_bits bytes)) (bit_xor r (value (wire_bits bytes)))
unfolding after_bytes wire_bits shifts value
after_bytes_is g r [] = sym (xor_zero_r r)
after_bytes_is g r (b ∷ bs) =
    let rest = value (wire_bits bs) in
    let n = length (wire_bits bs) in
    after_bytes_is g (after_byte g r b) bs
    ∙ sym (ap₂ (λ x y. shifts g x (bit_xor r y)) (length-first b bs) (value_first_sum b bs)
    ∙ ap (shifts g (8 + n)) (sym (xor_assoc r (b % 2 ^ 8) (rest * 2 ^ 8)))
    ∙ shifts_join g 8 n (bit_xor (bit_xor r (b % 2 ^ 8)) (rest * 2 ^ 8))
    ∙ ap (shifts g n) (shifts_past g 8 (bit_xor r (b % 2 ^ 8)) rest))

-- what a table gives for the lowest byte, and the rest of the register
pub taken : (g r b entry : ℕ) → b < 2 ^ 8 → entry ≡ shifts g 8 (bit_xor (r % 2 ^ 8) b)
    → bit_xor entry (r / 2 ^ 8) ≡ after_byte g r b
taken g r b entry h e =
    ap (λ x. bit_xor x (r / 2 ^ 8)) e ∙ sym (byte_step g r b)
    ∙ ap (λ x. shifts g 8 (bit_xor r x)) (sym (mod-eq_of_lt h))

-- before the first byte
pub after_none : (g r : ℕ) → r ≡ after_bytes g r []
unfolding after_bytes
after_none g r = refl

-- and with one more
pub after_more : (g r : ℕ) (bytes : List ℕ) (i : ℕ) → i < length bytes
    → after_bytes g r (take (i + 1) bytes) ≡ after_byte g (after_bytes g r (take i bytes)) (get_or bytes i 0)
unfolding after_bytes
after_more g r bytes i h = fold_more (after_byte g) r bytes i 0 h
