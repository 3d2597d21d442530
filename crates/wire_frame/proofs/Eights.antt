-- A register that takes eight bytes in one step.
use Rattle.std.proofs.Common.{◌≡◌, ℕ, ◌+◌, ◌-◌, ◌*◌, ◌/◌, ◌%◌, ◌^◌, ◌<◌, List, [], ◌∷◌, ◌++◌, length, bit_xor}
use Rattle.std.proofs.Common.{take, drop, take-append-drop, slice_index, refl, sym, ap, ap₂, ◌∙◌, arith}
use Rattle.std.specs.Int.{w32, from_le_bytes}
use Rattle.std.specs.Int.Bits.{xor_assoc, xor_zero_r}
use Rattle.std.proofs.Math.Seq.{take-add}
use Rattle.std.proofs.lemmas.List.Sums.{fold-append}
use Rattle.wire_frame.specs.Polynomial.{bits}
use Rattle.wire_frame.specs.Checksum.{wire_bits}
use Rattle.wire_frame.specs.Register.{shifts, after_bytes}
use Rattle.wire_frame.proofs.Shifts.{shifts_join, shifts_sum, byte_step}
use Rattle.wire_frame.proofs.Values.{value}
use Rattle.wire_frame.proofs.Bytes.{after_bytes_is, value_first}

-- the lowest byte of a register and the bytes above it, in eight shifts and more
lowest_byte : (g n r : ℕ)
    → shifts g (8 + n) r ≡ bit_xor (shifts g (8 + n) (r % 2 ^ 8)) (shifts g n (r / 2 ^ 8))
lowest_byte g n r =
    let step : shifts g 8 r ≡ bit_xor (shifts g 8 (r % 2 ^ 8)) (r / 2 ^ 8)
    = ap (shifts g 8) (sym (xor_zero_r r)) ∙ byte_step g r 0
    ∙ ap (λ x. bit_xor (shifts g 8 x) (r / 2 ^ 8)) (xor_zero_r (r % 2 ^ 8)) in
    shifts_join g 8 n r ∙ ap (shifts g n) step ∙ shifts_sum g n (shifts g 8 (r % 2 ^ 8)) (r / 2 ^ 8)
    ∙ ap (λ x. bit_xor x (shifts g n (r / 2 ^ 8))) (sym (shifts_join g 8 n (r % 2 ^ 8)))

-- the same where the shifts are told as bytes
lowest_of : (g more r first rest : ℕ) → first ≡ r % 2 ^ 8 → rest ≡ r / 2 ^ 8
    → shifts g (8 * (more + 1)) r ≡ bit_xor (shifts g (8 * (more + 1)) first) (shifts g (8 * more) rest)
lowest_of g more r first rest a b =
    let long : 8 * (more + 1) ≡ 8 + 8 * more = omega arith in
    ap (λ n. shifts g n r) long ∙ lowest_byte g (8 * more) r
    ∙ ap₂ (λ x y. bit_xor x (shifts g (8 * more) y)) (ap₂ (shifts g) (sym long) (sym a)) (sym b)

-- a word of four bytes is shifted byte by byte
pub four_bytes : (g more word a b c d : ℕ) → a < 256 → b < 256 → c < 256
    → word ≡ a + b * 256 + c * 65536 + d * 16777216
    → bit_xor (bit_xor (bit_xor (shifts g (8 * (more + 3 + 1)) a) (shifts g (8 * (more + 2 + 1)) b))
    (shifts g (8 * (more + 1 + 1)) c)) (shifts g (8 * (more + 1)) d)
    ≡ shifts g (8 * (more + 4)) word
four_bytes g more word a b c d p q r e =
    let fourth = d in
    let third = c + d * 256 in
    let second = b + c * 256 + d * 65536 in
    let w = shifts g (8 * (more + 3 + 1)) a in
    let x = shifts g (8 * (more + 2 + 1)) b in
    let y = shifts g (8 * (more + 1 + 1)) c in
    let z = shifts g (8 * (more + 1)) d in
    let one = lowest_of g (more + 3) word a second (omega (arith, p, e)) (omega (arith, p, e)) in
    let two = lowest_of g (more + 2) second b third (omega (arith, q)) (omega (arith, q)) in
    let three = lowest_of g (more + 1) third c fourth (omega (arith, r)) (omega (arith, r)) in
    let first_end : 8 * (more + 4) ≡ 8 * (more + 3 + 1) = omega arith in
    let second_end : 8 * (more + 3) ≡ 8 * (more + 2 + 1) = omega arith in
    let third_end : 8 * (more + 2) ≡ 8 * (more + 1 + 1) = omega arith in
    let last : shifts g (8 * (more + 2)) third ≡ bit_xor y z = ap (λ n. shifts g n third) third_end ∙ three in
    let middle : shifts g (8 * (more + 3)) second ≡ bit_xor x (bit_xor y z)
    = ap (λ n. shifts g n second) second_end ∙ two ∙ ap (bit_xor x) last in
    let whole : shifts g (8 * (more + 4)) word ≡ bit_xor w (bit_xor x (bit_xor y z))
    = ap (λ n. shifts g n word) first_end ∙ one ∙ ap (bit_xor w) middle in
    xor_assoc (bit_xor w x) y z ∙ xor_assoc w x (bit_xor y z) ∙ sym whole

-- bytes behind others
pub after-append : (g r : ℕ) (xs ys : List ℕ) → after_bytes g r (xs ++ ys) ≡ after_bytes g (after_bytes g r xs) ys
unfolding after_bytes
after-append g r xs ys = fold-append _ r xs ys

long_four : (a b c d : ℕ) → length (wire_bits (a ∷ b ∷ c ∷ d ∷ [])) ≡ 32
unfolding wire_bits bits
long_four a b c d = refl

value_none : value (wire_bits []) ≡ 0
unfolding wire_bits value
value_none = refl

value_four : (a b c d : ℕ) → a < 256 → b < 256 → c < 256 → d < 256
    → value (wire_bits (a ∷ b ∷ c ∷ d ∷ [])) ≡ from_le_bytes w32 (a ∷ b ∷ c ∷ d ∷ [])
value_four a b c d p q s t =
    let none = value_none in
    let fourth = value_first d [] in
    let third = value_first c (d ∷ []) in
    let second = value_first b (c ∷ d ∷ []) in
    let first = value_first a (b ∷ c ∷ d ∷ []) in
    omega (arith, none, fourth, third, second, first, p, q, s, t)

-- four bytes are a word, the first of them lowest
after_four : (g r a b c d : ℕ) → a < 256 → b < 256 → c < 256 → d < 256
    → after_bytes g r (a ∷ b ∷ c ∷ d ∷ []) ≡ shifts g 32 (bit_xor r (from_le_bytes w32 (a ∷ b ∷ c ∷ d ∷ [])))
after_four g r a b c d p q s t =
    after_bytes_is g r (a ∷ b ∷ c ∷ d ∷ [])
    ∙ ap₂ (λ n x. shifts g n (bit_xor r x)) (long_four a b c d) (value_four a b c d p q s t)

-- eight bytes are two words, and the first is shifted past the second
after_two : (g r a b c d e f h i : ℕ) → ((k : ℕ) → slice_index (a ∷ b ∷ c ∷ d ∷ e ∷ f ∷ h ∷ i ∷ []) k < 256)
    → after_bytes g r (a ∷ b ∷ c ∷ d ∷ e ∷ f ∷ h ∷ i ∷ [])
    ≡ bit_xor (shifts g 64 (bit_xor r (from_le_bytes w32 (a ∷ b ∷ c ∷ d ∷ []))))
    (shifts g 32 (from_le_bytes w32 (e ∷ f ∷ h ∷ i ∷ [])))
after_two g r a b c d e f h i below =
    let first = from_le_bytes w32 (a ∷ b ∷ c ∷ d ∷ []) in
    let second = from_le_bytes w32 (e ∷ f ∷ h ∷ i ∷ []) in
    after-append g r (a ∷ b ∷ c ∷ d ∷ []) (e ∷ f ∷ h ∷ i ∷ [])
    ∙ after_four g (after_bytes g r (a ∷ b ∷ c ∷ d ∷ [])) e f h i (below 4) (below 5) (below 6) (below 7)
    ∙ ap (λ x. shifts g 32 (bit_xor x second)) (after_four g r a b c d (below 0) (below 1) (below 2) (below 3))
    ∙ shifts_sum g 32 (shifts g 32 (bit_xor r first)) second
    ∙ ap (λ x. bit_xor x (shifts g 32 second)) (sym (shifts_join g 32 32 (bit_xor r first)))

-- the register after eight bytes, from the two words that they are
pub after_eight : (g r : ℕ) (bytes : List ℕ) → length bytes ≡ 8 → ((k : ℕ) → slice_index bytes k < 256)
    → bit_xor (shifts g 64 (bit_xor r (from_le_bytes w32 (slice_index bytes 0 ∷ slice_index bytes 1
    ∷ slice_index bytes 2 ∷ slice_index bytes 3 ∷ []))))
    (shifts g 32 (from_le_bytes w32 (slice_index bytes 4 ∷ slice_index bytes 5
    ∷ slice_index bytes 6 ∷ slice_index bytes 7 ∷ [])))
    ≡ after_bytes g r bytes
after_eight g r (a ∷ b ∷ c ∷ d ∷ e ∷ f ∷ h ∷ i ∷ []) eight below = sym (after_two g r a b c d e f h i below)
after_eight g r (a ∷ b ∷ c ∷ d ∷ e ∷ f ∷ h ∷ i ∷ j ∷ js) eight below = absurd (omega arith)
after_eight g r bytes eight below = absurd (omega arith)

-- eight bytes more of a list
pub eight_more : (g r : ℕ) (bytes : List ℕ) (place : ℕ)
    → after_bytes g (after_bytes g r (take (8 * place) bytes))
    (take (8 * place + 8 - 8 * place) (drop (8 * place) bytes))
    ≡ after_bytes g r (take (8 * (place + 1)) bytes)
eight_more g r bytes place =
    let more : 8 * place + 8 - 8 * place ≡ 8 = omega arith in
    let all : 8 * place + 8 ≡ 8 * (place + 1) = omega arith in
    ap (λ n. after_bytes g (after_bytes g r (take (8 * place) bytes)) (take n (drop (8 * place) bytes))) more
    ∙ sym (after-append g r (take (8 * place) bytes) (take 8 (drop (8 * place) bytes)))
    ∙ ap (after_bytes g r) (sym (take-add (8 * place) 8 bytes) ∙ ap (λ n. take n bytes) all)

-- the eights of a list, and the bytes behind them
pub after_parts : (g r n : ℕ) (bytes rest : List ℕ) → rest ≡ drop n bytes
    → after_bytes g (after_bytes g r (take n bytes)) rest ≡ after_bytes g r bytes
after_parts g r n bytes rest e =
    ap (after_bytes g (after_bytes g r (take n bytes))) e
    ∙ sym (after-append g r (take n bytes) (drop n bytes))
    ∙ ap (after_bytes g r) (take-append-drop n bytes)
