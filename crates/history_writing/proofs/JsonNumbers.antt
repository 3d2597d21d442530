-- The text of a whole number is a number of JSON.
use Rattle.std.proofs.Common.{◌≡◌, ℕ, zero, suc, ◌+◌, ◌^◌, ◌/◌, ◌%◌, ◌<◌, ◌≤◌, false, cond, ◌==◌, List, [], ◌∷◌, ◌++◌}
use Rattle.std.proofs.Common.{length, drop, get_or, Some, option_and_then, decimal, refl, ap, ◌∙◌, arith}
use Rattle.std.proofs.lemmas.Bool.{ne_eqb, le-leb, and_from}
use Rattle.std.proofs.lemmas.List.{drop_all, length-append}
use Rattle.std.proofs.Math.ListN.{get_or-append}
use Rattle.std.proofs.lemmas.Fmt.{decimal_by_steps_wide, decimal_digit, decimal_is_IsNumeral_wide}
use Rattle.std.proofs.lemmas.Str.Parse.{digit_at}
use Rattle.std.specs.List.{prefix_len}
use Rattle.std.specs.Char.{is_ascii_digit}
use Rattle.json.specs.Word.{head, after_whole, after_fraction, after_exponent, after_number}
use Rattle.json.specs.Print.{IsNumber}

-- the byte at each place is a digit
abbrev HasDigits : List ℕ → Type 0
HasDigits ds = (i : ℕ) → i < length ds → (48 ≤ get_or ds i 0) × (get_or ds i 0 ≤ 57)

-- so all of them are the digits at the front
prefix_len-digits : (ds : List ℕ) → HasDigits ds → prefix_len is_ascii_digit ds ≡ length ds
prefix_len-digits [] digits = refl
prefix_len-digits (d ∷ ds) digits =
    let here = digits 0 (omega arith) in
    let rest = prefix_len-digits ds (λ i below. digits (suc i) (omega arith)) in
    ap (λ b. cond b (1 + prefix_len is_ascii_digit ds) 0)
    (and_from _ _ (le-leb 48 d here.0) (le-leb d 57 here.1)) ∙ omega arith

-- There is a digit, and the first one is not 0 where the number is not
record Begins (n : ℕ) (ds : List ℕ) : Type 0 where
  some : 0 < length ds
  first : 0 < n → 48 < get_or ds 0 0

begins-more : (n : ℕ) (ds : List ℕ) → 10 ≤ n → Begins (n / 10) ds → Begins n (ds ++ (48 + n % 10) ∷ [])
begins-more n ds long front = record {
  some = omega (arith, length-append ds ((48 + n % 10) ∷ []), front.some);
  first = λ above. omega (arith, get_or-append ds ((48 + n % 10) ∷ []) 0 0 front.some, front.first (omega arith));
}

begins-decimal : (n : ℕ) → n < 10 ^ 64 → Begins n (decimal n)
begins-decimal n small = decimal_by_steps_wide Begins
    (λ m below. record { some = omega arith; first = λ above. omega arith }) begins-more n small

-- digits of which the first is not 0 are a number of JSON
is-number : (ds : List ℕ) → 48 < get_or ds 0 0 → HasDigits ds → IsNumber ds
unfolding after_number
is-number [] first digits = absurd (omega arith)
is-number (d ∷ ds) first digits =
    let all = prefix_len-digits (d ∷ ds) digits in
    let whole : after_whole (d ∷ ds) ≡ Some [] =
    rw (ne_eqb d 48 (λ e. omega arith), all, ne_eqb (suc (length ds)) 0 (λ e. omega arith))
    (ap Some (drop_all (length ds) ds (omega arith))) in
    let unsigned : (head (d ∷ ds) == 45) ≡ false = ne_eqb d 45 (λ e. omega arith) in
    ap (λ rest. option_and_then after_exponent (option_and_then after_fraction rest))
    (ap (λ signed. after_whole (cond signed (drop 1 (d ∷ ds)) (d ∷ ds))) unsigned ∙ whole)

-- what is written of a whole number is a number of JSON
pub IsNumber-decimal : (n : ℕ) → n < 10 ^ 64 → IsNumber (decimal n)
unfolding after_number
IsNumber-decimal zero small = rw (decimal_digit 0 (omega arith)) refl
IsNumber-decimal (suc n) small =
    let digits = (decimal_is_IsNumeral_wide (suc n) small).0.1 in
    is-number (decimal (suc n)) ((begins-decimal (suc n) small).first (omega arith))
    (λ i below. digit_at (decimal (suc n)) i digits below)
