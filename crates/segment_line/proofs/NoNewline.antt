-- No newline is in the compact text of a value: in a string stands its escape.
use Rattle.std.proofs.Common.{◌≡◌, ◌≢◌, ℕ, zero, suc, ◌/◌, ◌%◌, ◌==◌, ℤ, pos, negsuc, Bool, true, false, cond, nat_lt}
use Rattle.std.proofs.Common.{List, [], ◌∷◌, ◌++◌, decimal, refl, subst, arith}
use Rattle.std.specs.Char.{digit_char}
use Rattle.std.specs.Fmt.{digits, digits_onto, digit_glyph, signed_decimal}
use Rattle.json.specs.Print.{escape_letter, escape_byte, escape, quoted}
use Rattle.serde_json.specs.Data.{Num, unsigned, negative, float, Data, null, boolean, number, string, array, object}
use Rattle.serde_json.specs.Data.{Items, no_items, item, Members, no_members, member}
use Rattle.serde_json.specs.Written.{number_text, comma_if, compact_text, items_text, members_text}
use Rattle.text_stream.specs.Lines.{IsWithinLine}
use Rattle.text_stream.proofs.Taking.{IsWithinLine-append}

glyph_within : (d : ℕ) → digit_glyph false d ≢ 10
glyph_within d = grind arith

digit_within : (d : ℕ) → digit_char d ≢ 10
digit_within d = grind arith

letter_within : (x : ℕ) → escape_letter x ≢ 10
letter_within x = grind arith

either : (b : Bool) (s t : List ℕ) → IsWithinLine s → (b ≡ false → IsWithinLine t) → IsWithinLine (cond b s t)
either true s t p q = p
either false s t p q = q refl

-- a byte that has no escape is no control character
printed_within : (x : ℕ) → nat_lt x 32 ≡ false → x ≢ 10
printed_within x printed = λ e.
    absurd (let no : nat_lt 10 32 ≡ false = subst (λ n. nat_lt n 32 ≡ false) e printed in cc)

escaped_within : (x : ℕ) → IsWithinLine (escape_byte x)
unfolding escape_byte
escaped_within x =
    let letter : IsWithinLine (92 ∷ escape_letter x ∷ []) = (λ e. omega arith, (letter_within x, tt)) in
    let code : IsWithinLine (92 ∷ 117 ∷ 48 ∷ 48 ∷ digit_char (x / 16) ∷ digit_char (x % 16) ∷ []) = (
      λ e. omega arith,
      (
        λ e. omega arith,
        (
          λ e. omega arith,
          (
            λ e. omega arith,
            (digit_within (x / 16), (digit_within (x % 16), tt)),
          ),
        ),
      ),
    ) in
    either (nat_lt 0 (escape_letter x)) _ _ letter (λ none.
    either (nat_lt x 32) _ _ code (λ printed. (printed_within x printed, tt)))

escape_within : (s : List ℕ) → IsWithinLine (escape s)
escape_within [] = tt
escape_within (x ∷ s) = IsWithinLine-append (escape_byte x) (escape s) (escaped_within x) (escape_within s)

quoted_within : (s : List ℕ) → IsWithinLine (quoted s)
quoted_within s =
    (λ e. omega arith, IsWithinLine-append (escape s) (34 ∷ []) (escape_within s) (λ e. omega arith, tt))

-- whatever the number is
onto_within : (k n : ℕ) (behind : List ℕ) → IsWithinLine behind → IsWithinLine (digits_onto k 10 false n behind)
onto_within zero n behind within = within
onto_within (suc k) n behind within =
    let more : IsWithinLine (digit_glyph false (n % 10) ∷ behind) = (glyph_within (n % 10), within) in
    either (n / 10 == 0) _ _ more (λ _. onto_within k (n / 10) (digit_glyph false (n % 10) ∷ behind) more)

decimal_within : (n : ℕ) → IsWithinLine (decimal n)
unfolding digits
decimal_within n = onto_within 64 n [] tt

signed_within : (z : ℤ) → IsWithinLine (signed_decimal z)
signed_within (pos n) = decimal_within n
signed_within (negsuc n) = (λ e. omega arith, decimal_within (suc n))

number_within : (n : Num) → IsWithinLine (number_text n)
number_within (unsigned n) = decimal_within n
number_within (negative z) = signed_within z
number_within (float x) = tt

comma_within : (later : Bool) → IsWithinLine (comma_if later)
comma_within true = (λ e. omega arith, tt)
comma_within false = tt

mutual
  -- no newline is in the compact text of a value
  pub compact_within : (d : Data) → IsWithinLine (compact_text d)
  compact_within null =
      (λ e. omega arith, (λ e. omega arith, (λ e. omega arith, (λ e. omega arith, tt))))
  compact_within (boolean true) =
      (λ e. omega arith, (λ e. omega arith, (λ e. omega arith, (λ e. omega arith, tt))))
  compact_within (boolean false) = (
    λ e. omega arith,
    (
      λ e. omega arith,
      (
        λ e. omega arith,
        (
          λ e. omega arith,
          (λ e. omega arith, tt),
        ),
      ),
    ),
  )
  compact_within (number n) = number_within n
  compact_within (string s) = quoted_within s
  compact_within (array ds) = (λ e. omega arith, items_within false ds)
  compact_within (object ms) = (λ e. omega arith, members_within false ms)

  items_within : (later : Bool) (ds : Items) → IsWithinLine (items_text later ds)
  items_within later no_items = (λ e. omega arith, tt)
  items_within later (item d ds) =
      IsWithinLine-append (comma_if later) (compact_text d ++ items_text true ds) (comma_within later)
      (IsWithinLine-append (compact_text d) (items_text true ds) (compact_within d) (items_within true ds))

  members_within : (later : Bool) (ms : Members) → IsWithinLine (members_text later ms)
  members_within later no_members = (λ e. omega arith, tt)
  members_within later (member k d ms) =
      let rest = compact_text d ++ members_text true ms in
      IsWithinLine-append (comma_if later) (quoted k ++ 58 ∷ rest) (comma_within later)
      (IsWithinLine-append (quoted k) (58 ∷ rest) (quoted_within k) (
        λ e. omega arith,
        IsWithinLine-append (compact_text d) (members_text true ms) (compact_within d) (members_within true ms),
      ))
