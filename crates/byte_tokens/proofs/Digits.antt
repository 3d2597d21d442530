-- Hexadecimal digits stand for themselves in quotes.
use Rattle.std.proofs.Common.{◌≡◌, ◌≤◌, ℕ, true, true≢false, List, [], ◌∷◌, ◌++◌, refl, sym, ap, ◌∙◌, arith}
use Rattle.std.proofs.Common.{◌+◌, ◌*◌, ◌%◌, ◌<◌, Some, Ok}
use Rattle.std.specs.List.{AllPass}
use Rattle.std.proofs.lemmas.List.Elements.{All-head, All-tail}
use Rattle.hex.specs.Hex.{is_hex_digit, hex_digit_value, digit_or_error, pair_value, ◌>>=◌}
use Rattle.json.specs.Print.{escape, escape_byte}
use Rattle.json.proofs.Printed.Strings.{escape_byte_plain}

abbrev IsDigit : ℕ → Type 0
IsDigit x = is_hex_digit x ≡ true

digit_low : (x : ℕ) → IsDigit x → 32 ≤ x
digit_low x digit = grind arith

-- a digit is no quote, no backslash and no control
digit_plain : (x : ℕ) → IsDigit x → escape_byte x ≡ x ∷ []
digit_plain x digit =
    escape_byte_plain x (λ e. true≢false (sym digit ∙ ap is_hex_digit e))
    (λ e. true≢false (sym digit ∙ ap is_hex_digit e)) (digit_low x digit)

-- digits have no escape
pub digits_plain : (s : List ℕ) → AllPass is_hex_digit s → escape s ≡ s
digits_plain [] digits = refl
digits_plain (x ∷ s) digits =
    (λ i. digit_plain x (All-head IsDigit x s digits) i ++ escape s)
    ∙ ap (λ l. x ∷ l) (digits_plain s (All-tail IsDigit x s digits))

-- two digits are read as the byte that arithmetic makes of their values
pub pair_read : (a b x y i : ℕ) → hex_digit_value a ≡ Some x → hex_digit_value b ≡ Some y → x < 16 → y < 16
    → pair_value a b i ≡ Ok ((x * 16 % 256 + y) % 256)
pair_read a b x y i high low few less =
    let fits : x * 16 + y ≡ (x * 16 % 256 + y) % 256 = omega arith in
    ap (λ h. digit_or_error a i h >>= λ v. digit_or_error b (i + 1) (hex_digit_value b) >>= λ w. Ok (v * 16 + w)) high
    ∙ ap (λ l. digit_or_error b (i + 1) l >>= λ w. Ok (x * 16 + w)) low
    ∙ ap Ok fits
