-- A register that is shifted: the bits that have not reached its lowest place pass through, and shifts of a sum are the
-- sum of the shifts.
use Rattle.std.proofs.Common.{◌≡◌, ℕ, zero, suc, ◌+◌, ◌*◌, ◌/◌, ◌%◌, ◌^◌, ◌<◌, refl, sym, ap, ◌∙◌, arith, bit_xor}
use Rattle.std.proofs.Common.{pow-suc, mul_assoc, zero-mul, zero-add, suc-add, mod-lt, pow_pos}
use Rattle.std.specs.Int.Bits.{xor_shr, xor_mod, xor_assoc, xor_comm, xor_zero_r, xor_self, xor_shifted}
use Rattle.wire_frame.specs.Register.{shift, shifts}

-- the last two of three change places
pub xor_swap : (a b c : ℕ) → bit_xor (bit_xor a b) c ≡ bit_xor (bit_xor a c) b
xor_swap a b c = xor_assoc a b c ∙ ap (bit_xor a) (xor_comm b c) ∙ sym (xor_assoc a c b)

-- two sums of two are a sum of two sums
pub xor_four : (a b c d : ℕ) → bit_xor (bit_xor a b) (bit_xor c d) ≡ bit_xor (bit_xor a c) (bit_xor b d)
xor_four a b c d =
    sym (xor_assoc (bit_xor a b) c d) ∙ ap (λ x. bit_xor x d) (xor_swap a b c) ∙ xor_assoc (bit_xor a c) b d

-- one place up
pub up_one : (c n : ℕ) → c * 2 ^ suc n ≡ c * 2 ^ n * 2
up_one c n = ap (λ x. c * x) (pow-suc 2 n) ∙ sym (mul_assoc c (2 ^ n) 2)

-- bits above the lowest pass through
pub shift_past : (g a c : ℕ) → shift g (bit_xor a (c * 2)) ≡ bit_xor (shift g a) c
unfolding shift
shift_past g a c =
    let whole : c * 2 / 2 ≡ c = omega arith in
    let even : c * 2 % 2 ≡ 0 = omega arith in
    let half : bit_xor a (c * 2) / 2 ≡ bit_xor (a / 2) c = xor_shr a (c * 2) 1 ∙ ap (bit_xor (a / 2)) whole in
    let low : bit_xor a (c * 2) % 2 ≡ a % 2 = xor_mod a (c * 2) 1 ∙ ap (bit_xor (a % 2)) even ∙ xor_zero_r (a % 2) in
    ap (λ x. bit_xor x (bit_xor a (c * 2) % 2 * g)) half ∙ ap (λ x. bit_xor (bit_xor (a / 2) c) (x * g)) low
    ∙ xor_swap (a / 2) c (a % 2 * g)

-- and bits above the lowest n pass n shifts
pub shifts_past : (g n a c : ℕ) → shifts g n (bit_xor a (c * 2 ^ n)) ≡ bit_xor (shifts g n a) c
unfolding shifts
shifts_past g zero a c = ap (bit_xor a) (omega arith)
shifts_past g (suc n) a c =
    ap (λ x. shifts g n (shift g (bit_xor a x))) (up_one c n) ∙ ap (shifts g n) (shift_past g a (c * 2 ^ n))
    ∙ shifts_past g n (shift g a) c

-- shifts one after the other
pub shifts_join : (g m n r : ℕ) → shifts g (m + n) r ≡ shifts g n (shifts g m r)
unfolding shifts
shifts_join g zero n r = ap (λ x. shifts g x r) (zero-add n)
shifts_join g (suc m) n r = ap (λ x. shifts g x r) (suc-add m n) ∙ shifts_join g m n (shift g r)

-- a sum of two digits, times a number
digit_times : (g x y : ℕ) → x < 2 → y < 2 → bit_xor x y * g ≡ bit_xor (x * g) (y * g)
digit_times g zero y p q = sym (ap (λ z. bit_xor z (y * g)) (zero-mul g))
digit_times g (suc zero) zero p q = sym (ap (bit_xor (1 * g)) (zero-mul g) ∙ xor_zero_r (1 * g))
digit_times g (suc zero) (suc zero) p q = zero-mul g ∙ sym (xor_self (1 * g))
digit_times g (suc zero) (suc (suc y)) p q = absurd (omega arith)
digit_times g (suc (suc x)) y p q = absurd (omega arith)

-- a shift of a sum
pub shift_sum : (g a b : ℕ) → shift g (bit_xor a b) ≡ bit_xor (shift g a) (shift g b)
unfolding shift
shift_sum g a b =
    let half : bit_xor a b / 2 ≡ bit_xor (a / 2) (b / 2) = xor_shr a b 1 in
    let low : bit_xor a b % 2 ≡ bit_xor (a % 2) (b % 2) = xor_mod a b 1 in
    ap (λ x. bit_xor x (bit_xor a b % 2 * g)) half ∙ ap (λ x. bit_xor (bit_xor (a / 2) (b / 2)) (x * g)) low
    ∙ ap (bit_xor (bit_xor (a / 2) (b / 2))) (digit_times g (a % 2) (b % 2) (omega arith) (omega arith))
    ∙ xor_four (a / 2) (b / 2) (a % 2 * g) (b % 2 * g)

-- shifts of a sum
pub shifts_sum : (g n a b : ℕ) → shifts g n (bit_xor a b) ≡ bit_xor (shifts g n a) (shifts g n b)
unfolding shifts
shifts_sum g zero a b = refl
shifts_sum g (suc n) a b = ap (shifts g n) (shift_sum g a b) ∙ shifts_sum g n (shift g a) (shift g b)

-- one byte at a time is eight bits at a time: the upper part of the register passes, and the lowest byte is looked up
pub byte_step : (g r b : ℕ) → shifts g 8 (bit_xor r b) ≡ bit_xor (shifts g 8 (bit_xor (r % 2 ^ 8) b)) (r / 2 ^ 8)
byte_step g r b =
    let parts : r ≡ bit_xor (r / 2 ^ 8 * 2 ^ 8) (r % 2 ^ 8)
    = sym (xor_shifted (r / 2 ^ 8) 8 (r % 2 ^ 8) (mod-lt r (pow_pos 8)) ∙ omega arith) in
    ap (λ x. shifts g 8 (bit_xor x b)) parts
    ∙ ap (shifts g 8)
    (xor_assoc (r / 2 ^ 8 * 2 ^ 8) (r % 2 ^ 8) b ∙ xor_comm (r / 2 ^ 8 * 2 ^ 8) (bit_xor (r % 2 ^ 8) b))
    ∙ shifts_past g 8 (bit_xor (r % 2 ^ 8) b) (r / 2 ^ 8)
