-- Bytes of a text that are read one by one.
use Rattle.std.proofs.Common.{◌≡◌, ◌+◌, ◌*◌, ◌-◌, ◌/◌, ◌%◌, ◌^◌, ◌<◌, ◌≤◌, ℕ, List, [], ◌∷◌, ◌++◌}
use Rattle.std.proofs.Common.{length, take, drop, get_or}
use Rattle.std.proofs.Common.{decimal, sym, ap, ◌∙◌, subst, arith, drop-cons, add-one, append_assoc}
use Rattle.std.proofs.Common.{inl, inr, lit<}
use Rattle.std.proofs.lemmas.List.{take_more, get_or-drop, drop-drop, take-append-drop, length-drop, length-take-le}
use Rattle.std.proofs.lemmas.List.{get_or-take}
use Rattle.std.proofs.lemmas.Fmt.{decimal_step, decimal_digit}
use Rattle.std.proofs.lemmas.Bool.{cases_lt}
use Rattle.std.proofs.Math.Nat.{pow-suc, pow-le-pow_right}
use Rattle.std.specs.Prelude.{◌⊎◌}
use Rattle.std.proofs.lemmas.Grind.{flat_map-append, same_number_lists}
use Rattle.json.specs.Print.{escape, escape_byte}
use Rattle.json.proofs.Printed.Strings.{escape_byte_plain}

-- the byte that was read stands first in what is left
pub first : (bytes text : List ℕ) (at x c : ℕ) → bytes ≡ text → x ≡ c
    → (0 < x → drop at bytes ≡ x ∷ drop (at + 1) bytes) → 0 < c → drop at text ≡ c ∷ drop (at + 1) text
first bytes text at x c same is here some =
    let found : drop at bytes ≡ x ∷ drop (at + 1) bytes = here (subst (λ y. 0 < y) (sym is) some) in
    subst (λ t. drop at t ≡ c ∷ drop (at + 1) t) same (subst (λ y. drop at bytes ≡ y ∷ drop (at + 1) bytes) is found)

-- within a text the byte at a place stands first in what is left there
pub next_byte : (text : List ℕ) (at : ℕ) → at < length text → drop at text ≡ get_or text at 0 ∷ drop (at + 1) text
next_byte text at within = rw add-one (drop-cons text at 0 within)

-- one byte more that stands for itself
pub plain_more : (text : List ℕ) (from at : ℕ) → from ≤ at → at < length text
    → (32 ≤ get_or text at 0) × ((get_or text at 0 ≡ 34 → ⊥) × (get_or text at 0 ≡ 92 → ⊥))
    → escape (take (at - from) (drop from text)) ≡ take (at - from) (drop from text)
    → escape (take (at + 1 - from) (drop from text)) ≡ take (at + 1 - from) (drop from text)
plain_more text from at le within plain before =
    let n = at - from in
    let xs = drop from text in
    let x = get_or text at 0 in
    let count : at + 1 - from ≡ n + 1 = omega arith in
    let inside : n < length xs = rw length-drop (omega arith) in
    let place : from + n ≡ at = omega arith in
    let here : get_or xs n 0 ≡ x = get_or-drop from text n 0 ∙ ap (λ i. get_or text i 0) place in
    let more : take (at + 1 - from) xs ≡ take n xs ++ x ∷ [] =
    ap (λ k. take k xs) count ∙ take_more xs n 0 inside ∙ ap (λ y. take n xs ++ y ∷ []) here in
    let one : escape (x ∷ []) ≡ x ∷ [] =
    ap (λ l. l ++ []) (escape_byte_plain x plain.1.0 plain.1.1 plain.0) in
    ap escape more ∙ flat_map-append escape_byte (take n xs) (x ∷ [])
    ∙ (λ i. before i ++ one i) ∙ sym more

-- one digit more
pub decimal_more : (n d : ℕ) → 0 < n → d < 10 → n * 10 + d < 2 ^ 64 → decimal (n * 10 + d) ≡ decimal n ++ (48 + d) ∷ []
decimal_more n d some digit fits =
    let front : (n * 10 + d) / 10 ≡ n = omega arith in
    let last : (n * 10 + d) % 10 ≡ d = omega arith in
    decimal_step (n * 10 + d) (omega arith) fits ∙ (λ i. decimal (front i) ++ (48 + last i) ∷ [])

-- with one digit more, a number of fewer digits than m has at most m
pub fits_more : (n d k m : ℕ) → n < 10 ^ k → d < 10 → k < m → n * 10 + d < 10 ^ m
fits_more n d k m below digit few =
    let next : 10 ^ (k + 1) ≡ 10 ^ k * 10 = ap (λ i. 10 ^ i) (add-one k) ∙ pow-suc 10 k in
    let count : k + 1 ≤ m = omega arith in
    let most : 10 ^ (k + 1) ≤ 10 ^ m = pow-le-pow_right (lit< tt) count in
    omega (arith, below, next, most)

-- a digit behind a number is its last
pub digit_behind : (n x : ℕ) (t r : List ℕ) → t ≡ x ∷ r → 0 < n → 48 ≤ x → x ≤ 57 → n * 10 + (x - 48) < 2 ^ 64
    → decimal n ++ t ≡ decimal (n * 10 + (x - 48)) ++ r
digit_behind n x t r is some low high fits =
    let d = x - 48 in
    let c : 48 + d ≡ x = omega arith in
    let more = decimal_more n d some (omega arith) fits in
    ap (λ l. decimal n ++ l) (is ∙ ap (λ x. x ∷ r) (sym c)) ∙ sym (append_assoc (decimal n) ((48 + d) ∷ []) r)
    ∙ ap (λ l. l ++ r) (sym more)

-- a number that is spelled up to a digit of a text is spelled, with that digit, up to the next place
pub digit_more : (text : List ℕ) (from at n : ℕ) → at < length text → 0 < n → 48 ≤ get_or text at 0
    → get_or text at 0 ≤ 57 → n * 10 + (get_or text at 0 - 48) < 2 ^ 64
    → drop from text ≡ decimal n ++ drop at text
    → drop from text ≡ decimal (n * 10 + (get_or text at 0 - 48)) ++ drop (at + 1) text
digit_more text from at n within some low high fits before =
    before ∙ digit_behind n (get_or text at 0) (drop at text) (drop (at + 1) text) (next_byte text at within) some low
    high fits

-- one digit more of a number of at most 19
pub digit_put : (text : List ℕ) (from at n : ℕ) → from < at → at < length text
    → (48 ≤ get_or text at 0) × (get_or text at 0 ≤ 57) → at + 1 - from ≤ 19
    → (0 < n) × (n < 10 ^ (at - from)) × (drop from text ≡ decimal n ++ drop at text)
    → let m = (n * 10 % 2 ^ 64 + (get_or text at 0 - 48)) % 2 ^ 64 in
    (0 < m) × (m < 10 ^ (at + 1 - from)) × (drop from text ≡ decimal m ++ drop (at + 1) text)
digit_put text from at n before within digit few so_far =
    let d = get_or text at 0 - 48 in
    let k = at - from in
    let low : d < 10 = omega (arith, digit.1) in
    let next : at + 1 - from ≡ k + 1 = omega arith in
    let more : n * 10 + d < 10 ^ (k + 1) = fits_more n d k (k + 1) so_far.1 low (omega arith) in
    let most : n * 10 + d < 10 ^ 19 = fits_more n d k 19 so_far.1 low (omega arith) in
    let fits : n * 10 + d < 2 ^ 64 = omega (arith, most) in
    let same : n * 10 + d ≡ (n * 10 % 2 ^ 64 + d) % 2 ^ 64 = omega (arith, fits) in
    subst (λ m. (0 < m) × (m < 10 ^ (at + 1 - from)) × (drop from text ≡ decimal m ++ drop (at + 1) text)) same (
      omega (arith, so_far.0),
      subst (λ i. n * 10 + d < 10 ^ i) (sym next) more,
      digit_more text from at n within so_far.0 digit.0 digit.1 fits so_far.2,
    )

-- a first digit
pub digit_first : (t r : List ℕ) (x : ℕ) → 48 ≤ x → x ≤ 57 → t ≡ x ∷ r → t ≡ decimal (x - 48) ++ r
digit_first t r x low high is =
    let c : x ≡ 48 + (x - 48) = omega arith in
    is ∙ ap (λ y. y ∷ r) c ∙ ap (λ l. l ++ r) (sym (decimal_digit (x - 48) (omega arith)))

-- a byte that stands first in what is left is there
pub byte_there : (text : List ℕ) (at c : ℕ) {r : List ℕ} → drop at text ≡ c ∷ r
    → (at < length text) × (get_or text at 0 ≡ c)
byte_there text at c {r} is =
    let many : length (drop at text) ≡ length r + 1 = ap length is ∙ sym (add-one (length r)) in
    let within : at < length text = omega (arith, length-drop at text, many) in
    let here : drop at text ≡ get_or text at 0 ∷ drop (at + 1) text = next_byte text at within in
    (within, ap (λ l. get_or l 0 0) (sym here ∙ is))

-- what stands up to a place, and what from there on
pub at_stop : (text : List ℕ) (from stop : ℕ) (r : List ℕ) → from ≤ stop → drop stop text ≡ 34 ∷ r
    → drop from text ≡ take (stop - from) (drop from text) ++ 34 ∷ r
at_stop text from stop r le is =
    let n = stop - from in
    let place : from + n ≡ stop = omega arith in
    let rest : drop n (drop from text) ≡ 34 ∷ r = drop-drop n from text ∙ ap (λ i. drop i text) place ∙ is in
    sym (take-append-drop n (drop from text)) ∙ ap (λ l. take n (drop from text) ++ l) rest

module _ (P : ℕ → Type 0) (n k : ℕ) (within : k < n) (many : 4 ≤ n) (few : n ≤ 12)
    (front : (k : ℕ) → k < 4 → P k) (back : (k : ℕ) → k < 4 → P (n - 4 + k))
    (middle : 8 < n → (k : ℕ) → k < 4 → P (4 + k)) where
  by_part : (k < 4) ⊎ (4 ≤ k) → (k < n - 4) ⊎ (n - 4 ≤ k) → P k
  by_part (inl low) end = front k low
  by_part (inr high) (inl before) =
      let place : 4 + (k - 4) ≡ k = omega arith in
      subst P place (middle (omega arith) (k - 4) (omega arith))
  by_part (inr high) (inr end) =
      let place : n - 4 + (k - (n - 4)) ≡ k = omega arith in
      subst P place (back (k - (n - 4)) (omega arith))

  -- three parts of four, which may overlap, cover 4 to 12
  pub four_cover : P k
  four_cover = by_part (cases_lt k 4) (cases_lt k (n - 4))

-- a word whose bytes stand one by one at a place of a text stands there
pub word_there : (text word : List ℕ) (at : ℕ) → at + length word ≤ length text
    → ((k : ℕ) → k < length word → get_or text (at + k) 0 ≡ get_or word k 0)
    → drop at text ≡ word ++ drop (at + length word) text
word_there text word at within same =
    let n = length word in
    let xs = drop at text in
    let count : length (take n xs) ≡ n = length-take-le n xs (rw length-drop (omega arith)) in
    let front : take n xs ≡ word = same_number_lists (take n xs) word count
    (λ k few. get_or-take n xs k 0 (omega (arith, few, count)) ∙ get_or-drop at text k 0
    ∙ same k (omega (arith, few, count))) in
    sym (take-append-drop n xs) ∙ (λ i. front i ++ drop-drop n at text i)

-- a word that stands at a place of the bytes of a text stands there in the text
pub word_first : (bytes text word spelled : List ℕ) (at : ℕ) → bytes ≡ text → word ≡ spelled
    → drop at bytes ≡ word ++ drop (at + length word) bytes
    → drop at text ≡ spelled ++ drop (at + length spelled) text
word_first bytes text word spelled at same is here =
    let found : drop at text ≡ word ++ drop (at + length word) text =
    subst (λ t. drop at t ≡ word ++ drop (at + length word) t) same here in
    subst (λ w. drop at text ≡ w ++ drop (at + length w) text) is found
