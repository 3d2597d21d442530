-- The HCS finds each change of one bit or of two in a header of at most 7 bytes.
use Rattle.std.proofs.Common.{◌≡◌, ℕ, zero, suc, ◌+◌, ◌-◌, ◌*◌, ◌%◌, ◌^◌, ◌<◌, ◌≤◌, inl, inr}
use Rattle.std.proofs.Common.{Bool, true, false, not, List, [], ◌∷◌, ◌++◌, length, map, bit_xor}
use Rattle.std.proofs.Common.{refl, sym, ap, ap₂, ◌∙◌, arith, zero-mul}
use Rattle.std.proofs.Common.{mod-eq_of_lt, length-append}
use Rattle.std.specs.Int.{w16, to_le_bytes}
use Rattle.std.specs.Int.Bits.{xor_self, xor_zero_r, xor_assoc, xor_comm, xor_shifted}
use Rattle.std.proofs.lemmas.List.Concat.{flat_map-append}
use Rattle.wire_frame.specs.declared.tables.TheConstants.{CCITT}
use Rattle.wire_frame.specs.Polynomial.{ones, add, bits}
use Rattle.wire_frame.specs.Checksum.{ccitt, wire_bits, IsHcs, IsHeader, FindsTwoBits}
use Rattle.wire_frame.specs.Register.{shift, shifts}
use Rattle.wire_frame.proofs.Shifts.{shifts_past, shifts_join, shifts_sum, xor_four}
use Rattle.wire_frame.proofs.Values.{value, value-lt, value_add, length-add, value_append, value_bits}
use Rattle.wire_frame.proofs.Values.{value_not, length-bits, value_ones}
use Rattle.wire_frame.proofs.Sums.{register, checksum_is}
use Rattle.wire_frame.proofs.Generators.{ccitt_value, length-ccitt}
use Rattle.wire_frame.proofs.Requests.{hcs-lt}
use Rattle.wire_frame.proofs.SetBits.{One, one_set, Two, two_set}
use Rattle.wire_frame.proofs.LeftBy.{left_by, not_zero_at, apart_at, all_apart}

add_not : (p : List Bool) → add (map not p) p ≡ ones (length p)
unfolding add
add_not [] = refl
add_not (true ∷ p) = ap (λ x. true ∷ x) (add_not p)
add_not (false ∷ p) = ap (λ x. true ∷ x) (add_not p)

-- a number and its complement have no bit in common
full_xor : (a b : ℕ) → a + b + 1 ≡ 2 ^ 16 → bit_xor a b ≡ 65535
full_xor a b e =
    let p = bits 16 b in
    let small : b < 2 ^ 16 = omega arith in
    let same : value p ≡ b = value_bits 16 b ∙ mod-eq_of_lt small in
    let whole = value_not p in
    let long : 2 ^ length p ≡ 2 ^ 16 = ap (λ x. 2 ^ x) (length-bits 16 b) in
    let other : value (map not p) ≡ a = omega (arith, whole, same, long) in
    let full = value_ones (length p) in
    ap₂ bit_xor (sym other) (sym same) ∙ sym (value_add (map not p) p) ∙ ap value (add_not p)
    ∙ omega (arith, full, long)

value_pair : (a b : ℕ) → value (wire_bits (a ∷ b ∷ [])) ≡ b % 2 ^ 8 * 2 ^ 8 + a % 2 ^ 8
unfolding wire_bits value
value_pair a b =
    let last : value (bits 8 b ++ []) ≡ b % 2 ^ 8 = value_append (bits 8 b) [] ∙ omega (arith, value_bits 8 b) in
    value_append (bits 8 a) (bits 8 b ++ [])
    ∙ ap₂ (λ x y. x * 2 ^ y + value (bits 8 a)) last (length-bits 8 a)
    ∙ ap (λ x. b % 2 ^ 8 * 2 ^ 8 + x) (value_bits 8 a)

value_check : (sum : ℕ) → sum < 2 ^ 16 → value (wire_bits (to_le_bytes w16 sum)) ≡ sum
value_check sum h = value_pair _ _ ∙ omega arith

wire-append : (xs ys : List ℕ) → wire_bits (xs ++ ys) ≡ wire_bits xs ++ wire_bits ys
unfolding wire_bits
wire-append xs ys = flat_map-append (bits 8) xs ys

length-wire : (xs : List ℕ) → length (wire_bits xs) ≡ 8 * length xs
unfolding wire_bits
length-wire [] = omega arith
length-wire (x ∷ xs) =
    let rest = length-wire xs in
    length-append (bits 8 x) (wire_bits xs) ∙ ap (λ n. n + length (wire_bits xs)) (length-bits 8 x)
    ∙ omega (arith, rest)

-- a header leaves ones in the register
settled : (front : List ℕ) (sum : ℕ) → IsHcs front sum
    → shifts CCITT (length (wire_bits front)) (bit_xor 65535 (value (wire_bits (front ++ to_le_bytes w16 sum)))) ≡ 65535
settled front sum is =
    let n = length (wire_bits front) in
    let v = value (wire_bits front) in
    let fits = hcs-lt front sum is in
    let all : value (wire_bits (front ++ to_le_bytes w16 sum)) ≡ bit_xor v (sum * 2 ^ n)
    = ap value (wire-append front (to_le_bytes w16 sum))
    ∙ value_append (wire_bits front) (wire_bits (to_le_bytes w16 sum))
    ∙ ap (λ x. x * 2 ^ n + v) (value_check sum fits)
    ∙ sym (xor_shifted sum n v (value-lt (wire_bits front))) ∙ xor_comm (sum * 2 ^ n) v in
    let reg : register ccitt front ≡ shifts CCITT n (bit_xor 65535 v)
    = ap₂ (λ g k. shifts g n (bit_xor (2 ^ k - 1) v)) ccitt_value length-ccitt in
    let whole = checksum_is ccitt front sum is in
    let long : 2 ^ length ccitt ≡ 2 ^ 16 = ap (λ x. 2 ^ x) length-ccitt in
    ap (λ x. shifts CCITT n (bit_xor 65535 x)) all
    ∙ ap (shifts CCITT n) (sym (xor_assoc 65535 v (sum * 2 ^ n)))
    ∙ shifts_past CCITT n (bit_xor 65535 v) sum
    ∙ full_xor (shifts CCITT n (bit_xor 65535 v)) sum (omega (arith, reg, whole, long))

shifts_zero : (g n : ℕ) → shifts g n 0 ≡ 0
unfolding shifts shift
shifts_zero g zero = refl
shifts_zero g (suc n) = ap (shifts g n) (zero-mul g) ∙ shifts_zero g n

-- two headers of one length differ by what leaves nothing
nothing_left : (n c d : ℕ) → n ≤ 40 → shifts CCITT n (bit_xor 65535 c) ≡ 65535
    → shifts CCITT n (bit_xor 65535 d) ≡ 65535 → shifts CCITT 40 (bit_xor c d) ≡ 0
nothing_left n c d h p q =
    let gone : shifts CCITT n (bit_xor c d) ≡ 0
    = sym (ap (shifts CCITT n) (xor_four 65535 c 65535 d))
    ∙ shifts_sum CCITT n (bit_xor 65535 c) (bit_xor 65535 d) ∙ ap₂ bit_xor p q in
    let more : 40 ≡ n + (40 - n) = omega arith in
    ap (λ k. shifts CCITT k (bit_xor c d)) more ∙ shifts_join CCITT n (40 - n) (bit_xor c d)
    ∙ ap (shifts CCITT (40 - n)) gone ∙ shifts_zero CCITT (40 - n)

-- what sums to nothing is the same
same_of_none : (a b : ℕ) → bit_xor a b ≡ 0 → a ≡ b
same_of_none a b e =
    sym (xor_zero_r a) ∙ ap (bit_xor a) (sym e) ∙ sym (xor_assoc a a b) ∙ ap (λ x. bit_xor x b) (xor_self a)

-- the length of a header in front of its HCS
front_long : (xs : List ℕ) (h : IsHeader xs) → length h.front + 2 ≡ length xs
front_long xs h = sym (ap length h.bytes ∙ length-append h.front (to_le_bytes w16 h.sum) ∙ omega arith)

-- a header leaves ones, as a list of bytes
header_settled : (xs : List ℕ) (h : IsHeader xs)
    → shifts CCITT (8 * (length xs - 2)) (bit_xor 65535 (value (wire_bits xs))) ≡ 65535
header_settled xs h =
    let long = front_long xs h in
    let bits_long : 8 * (length xs - 2) ≡ length (wire_bits h.front)
    = ap (λ n. 8 * n) (omega (arith, long)) ∙ sym (length-wire h.front) in
    ap₂ (λ n x. shifts CCITT n (bit_xor 65535 (value (wire_bits x)))) bits_long h.bytes ∙ settled h.front h.sum h.is_hcs

-- a header of at most 7 bytes in which one bit is changed, or two are, is none
pub finds_two_bits : FindsTwoBits
finds_two_bits sent heard a long short changed b =
    let p = add (wire_bits sent) (wire_bits heard) in
    let sent_long = length-wire sent in
    let heard_long = length-wire heard in
    let same : length (wire_bits sent) ≡ length (wire_bits heard) = omega (arith, sent_long, heard_long, long) in
    let p_long : length p ≡ length (wire_bits heard) = length-add (wire_bits sent) (wire_bits heard) same in
    let other : shifts CCITT (8 * (length sent - 2)) (bit_xor 65535 (value (wire_bits heard))) ≡ 65535
    = ap (λ n. shifts CCITT (8 * (n - 2)) (bit_xor 65535 (value (wire_bits heard)))) (sym long)
    ∙ header_settled heard b in
    let none : shifts CCITT 40 (value p) ≡ 0
    = ap (shifts CCITT 40) (value_add (wire_bits sent) (wire_bits heard))
    ∙ nothing_left (8 * (length sent - 2)) (value (wire_bits sent)) (value (wire_bits heard)) (omega arith)
    (header_settled sent a) other in
    elim changed [
      | inl one ↦ one_found p (omega (arith, p_long, heard_long)) none (one_set p one)
      | inr two ↦ two_found p (omega (arith, p_long, heard_long)) none (two_set p two)
    ]
  where
    one_found : (p : List Bool) → length p ≤ 56 → shifts CCITT 40 (value p) ≡ 0 → One p → ⊥
    one_found p h e o =
        let within = o.within in
        not_zero_at 56 o.at all_apart (omega (arith, within)) (ap (shifts CCITT 40) (sym o.is) ∙ e)

    two_found : (p : List Bool) → length p ≤ 56 → shifts CCITT 40 (value p) ≡ 0 → Two p → ⊥
    two_found p h e t =
        let within = t.within in
        apart_at 56 t.high t.low all_apart (omega (arith, within)) t.below
        (same_of_none (left_by t.high) (left_by t.low)
        (sym (shifts_sum CCITT 40 (2 ^ t.high) (2 ^ t.low)) ∙ ap (shifts CCITT 40) (sym t.is) ∙ e))
