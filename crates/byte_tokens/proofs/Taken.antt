-- The tokens that a text begins with.
use Rattle.std.proofs.Common.{◌≡◌, ◌^◌, ◌<◌, ℕ, true, false, true≢false, List, [], ◌∷◌, ◌++◌, decimal, refl, sym, ap}
use Rattle.std.proofs.Common.{◌∙◌, inl, inr, length, drop, append_assoc}
use Rattle.std.proofs.Math.Seq.{drop-length}
use Rattle.json.specs.Token.{Token, begin_object, end_object, begin_array, end_array, key, string, number}
use Rattle.json.specs.Word.{ends_word}
use Rattle.json.specs.Print.{escape}
use Rattle.json.specs.Text.{content, plain}
use Rattle.json.specs.Lex.{Lexeme, token, colon, string_token, lex, between, in_string, begins_colon, punctuate}
use Rattle.json.specs.Lex.{after_value, fresh}
use Rattle.json.proofs.Printed.Strings.{content-escape, lex-escape}
use Rattle.json.proofs.Printed.Numbers.{lex-number}
use Rattle.json.proofs.Printed.Decimals.{IsNumber-decimal}
use Rattle.byte_tokens.specs.declared.between.Before.{Before}
use Rattle.byte_tokens.specs.declared.between.Before.TheVariants.{Opening, Value, Comma}
use Rattle.byte_tokens.specs.Left.{tokens_from, begins_at, closes_at, IsEnd, IsSpace, EndsValue}
use Rattle.byte_tokens.specs.Listed.{number_tokens}
use Rattle.byte_tokens.specs.Spelled.{spelled_key, spelled_text, spelled_run}

impossible : {P : Type 0} → false ≡ true → P
impossible e = absurd (true≢false (sym e))

module _ (t r : List ℕ) where
  -- where a value may begin, a brace opens an object
  pub object_opens : (b : Before) → begins_at b ≡ true → t ≡ 123 ∷ r
      → tokens_from b t ≡ begin_object ∷ tokens_from Opening r
  unfolding lex punctuate
  object_opens Opening may is = rw is refl
  object_opens Value may is = impossible may
  object_opens Comma may is = rw is refl

  -- where a value may begin, a bracket opens an array
  pub array_opens : (b : Before) → begins_at b ≡ true → t ≡ 91 ∷ r
      → tokens_from b t ≡ begin_array ∷ tokens_from Opening r
  unfolding lex punctuate
  array_opens Opening may is = rw is refl
  array_opens Value may is = impossible may
  array_opens Comma may is = rw is refl

  -- where what is open may be closed, a brace closes an object
  pub object_closes : (b : Before) → closes_at b ≡ true → t ≡ 125 ∷ r
      → tokens_from b t ≡ end_object ∷ tokens_from Value r
  unfolding lex punctuate
  object_closes Opening may is = rw is refl
  object_closes Value may is = rw is refl
  object_closes Comma may is = impossible may

  -- where what is open may be closed, a bracket closes an array
  pub array_closes : (b : Before) → closes_at b ≡ true → t ≡ 93 ∷ r
      → tokens_from b t ≡ end_array ∷ tokens_from Value r
  unfolding lex punctuate
  array_closes Opening may is = rw is refl
  array_closes Value may is = rw is refl
  array_closes Comma may is = impossible may

  -- a comma behind a value is no token
  pub comma_passed : t ≡ 44 ∷ r → tokens_from Comma r ≡ tokens_from Value t
  unfolding lex punctuate
  comma_passed is = rw is refl

  -- white space between tokens is none
  pub space_passed : (c : ℕ) → IsSpace c → t ≡ c ∷ r → lex between r ≡ lex between t
  unfolding lex
  space_passed c (inl e) is = rw is (rw e refl)
  space_passed c (inr (inl e)) is = rw is (rw e refl)
  space_passed c (inr (inr (inl e))) is = rw is (rw e refl)
  space_passed c (inr (inr (inr e))) is = rw is (rw e refl)

  -- white space ends a number
  pub space_ends : (c : ℕ) → IsSpace c → t ≡ c ∷ r → ends_word t ≡ true
  space_ends c (inl e) is = rw is (rw e refl)
  space_ends c (inr (inl e)) is = rw is (rw e refl)
  space_ends c (inr (inr (inl e))) is = rw is (rw e refl)
  space_ends c (inr (inr (inr e))) is = rw is (rw e refl)

  -- a comma or a closing bracket ends a value
  pub ends_value : (c : ℕ) → IsEnd c → t ≡ c ∷ r → EndsValue t
  unfolding lex
  ends_value c (inl e) is = rw is (rw e (refl, refl))
  ends_value c (inr (inl e)) is = rw is (rw e (refl, refl))
  ends_value c (inr (inr e)) is = rw is (rw e (refl, refl))

-- at the end of a text is no lexeme
pub none_at_end : (text : List ℕ) (at : ℕ) → at ≡ length text → lex between (drop at text) ≡ []
unfolding lex
none_at_end text at end = ap (λ i. lex between (drop i text)) end ∙ ap (lex between) (drop-length text)

-- what stands in quotes, where no byte of it has an escape
lex_quoted : (s r : List ℕ) → escape s ≡ s → lex between (34 ∷ (s ++ 34 ∷ r)) ≡ token (string s) ∷ lex between r
unfolding lex
lex_quoted s r same =
    let whole : s ++ 34 ∷ r ≡ escape s ++ 34 ∷ r = ap (λ l. l ++ 34 ∷ r) (sym same) in
    (λ i. token (string_token (content plain (whole i))) ∷ lex in_string (whole i))
    ∙ (λ i. token (string_token (content-escape s r i)) ∷ lex-escape s r i)

string_first : (b : Before) (s : List ℕ) (ls : List Lexeme) → begins_at b ≡ true → begins_colon ls ≡ false
    → (t : List ℕ) → lex between t ≡ token (string s) ∷ ls → tokens_from b t ≡ string s ∷ punctuate after_value ls
unfolding punctuate
string_first Opening s ls may none t is = rw is (rw none refl)
string_first Value s ls may none t is = impossible may
string_first Comma s ls may none t is = rw is (rw none refl)

key_first : (b : Before) (s : List ℕ) (ls : List Lexeme) → begins_at b ≡ true
    → (t : List ℕ) → lex between t ≡ token (string s) ∷ colon ∷ ls → tokens_from b t ≡ key s ∷ punctuate fresh ls
unfolding punctuate
key_first Opening s ls may t is = rw is refl
key_first Value s ls may t is = impossible may
key_first Comma s ls may t is = rw is refl

number_first : (b : Before) (s : List ℕ) (ls : List Lexeme) → begins_at b ≡ true
    → (t : List ℕ) → lex between t ≡ token (number s) ∷ ls → tokens_from b t ≡ number s ∷ punctuate after_value ls
unfolding punctuate
number_first Opening s ls may t is = rw is refl
number_first Value s ls may t is = impossible may
number_first Comma s ls may t is = rw is refl

module _ (t spelled name r : List ℕ) where
  -- what stands first where a key in its quotes does
  pub key_spelled : spelled ≡ spelled_key name → t ≡ spelled ++ r → t ≡ 34 ∷ (name ++ 34 ∷ (58 ∷ r))
  key_spelled is first =
      first ∙ ap (λ s. s ++ r) is ∙ ap (λ l. 34 ∷ l) (append_assoc name (34 ∷ 58 ∷ []) r)

  -- what stands first where a text in its quotes does
  pub text_spelled : spelled ≡ spelled_text name → t ≡ spelled ++ r → t ≡ 34 ∷ (name ++ 34 ∷ r)
  text_spelled is first = first ∙ ap (λ s. s ++ r) is ∙ ap (λ l. 34 ∷ l) (append_assoc name (34 ∷ []) r)

colon_first : (q r : List ℕ) → lex between q ≡ lex between (58 ∷ r) → lex between q ≡ colon ∷ lex between r
unfolding lex
colon_first q r same = same

module _ (b : Before) (may : begins_at b ≡ true) (t r : List ℕ) where
  -- a text, and behind it what ends a value
  pub text_left : (s : List ℕ) → escape s ≡ s → t ≡ 34 ∷ (s ++ 34 ∷ r) → EndsValue r
      → tokens_from b t ≡ string s ∷ punctuate after_value (lex between r)
  text_left s same is ends =
      string_first b s (lex between r) may ends.1 t (ap (lex between) is ∙ lex_quoted s r same)

  -- a key, and behind it its colon
  pub key_left : (s q : List ℕ) → escape s ≡ s → t ≡ 34 ∷ (s ++ 34 ∷ q) → lex between q ≡ lex between (58 ∷ r)
      → tokens_from b t ≡ key s ∷ punctuate fresh (lex between r)
  key_left s q same is behind =
      key_first b s (lex between r) may t
      (ap (lex between) is ∙ lex_quoted s q same ∙ ap (λ ls. token (string s) ∷ ls) (colon_first q r behind))

  -- a whole number, and behind it what ends a value
  pub number_left : (n : ℕ) → n < 2 ^ 64 → t ≡ decimal n ++ r → EndsValue r
      → tokens_from b t ≡ number (decimal n) ∷ punctuate after_value (lex between r)
  number_left n fits is ends =
      number_first b (decimal n) (lex between r) may t
      (ap (lex between) is ∙ lex-number (decimal n) r (IsNumber-decimal n fits) ends.0)

-- a key, the text under it and the key behind that
pub run_left : (b : Before) → begins_at b ≡ true → (t r name content next : List ℕ) → escape name ≡ name
    → escape content ≡ content → escape next ≡ next → t ≡ spelled_run name content next ++ r
    → tokens_from b t ≡ key name ∷ string content ∷ key next ∷ tokens_from Opening r
run_left b may t r name content next plain_name plain_content plain_next is =
    let r3 = spelled_key next ++ r in
    let r2 = 44 ∷ r3 in
    let r1 = spelled_text content ++ r2 in
    let whole : t ≡ spelled_key name ++ r1 =
    is ∙ append_assoc (spelled_key name) (spelled_text content ++ 44 ∷ spelled_key next) r
    ∙ ap (λ l. spelled_key name ++ l) (append_assoc (spelled_text content) (44 ∷ spelled_key next) r) in
    let named = key_left b may t r1 name (58 ∷ r1) plain_name (key_spelled t (spelled_key name) name r1 refl whole)
    refl in
    let said = text_left Opening refl r1 r2 content plain_content
    (text_spelled r1 (spelled_text content) content r2 refl refl) (ends_value r2 r3 44 (inl refl) refl) in
    let behind = key_left Comma refl r3 r next (58 ∷ r) plain_next
    (key_spelled r3 (spelled_key next) next r refl refl) refl in
    named ∙ ap (λ l. key name ∷ l) (said ∙ ap (λ l. string content ∷ l) (sym (comma_passed r2 r3 refl) ∙ behind))

-- where no lexeme is left, no token is
pub none_left : (b : Before) → closes_at b ≡ true → (t : List ℕ) → lex between t ≡ [] → tokens_from b t ≡ []
unfolding punctuate
none_left Opening may t none = rw none refl
none_left Value may t none = rw none refl
none_left Comma may t none = impossible may

-- one number more
pub number_more : (ns : List ℕ) (n : ℕ) (ts : List Token)
    → number_tokens ns ++ number (decimal n) ∷ ts ≡ number_tokens (ns ++ n ∷ []) ++ ts
unfolding number_tokens
number_more [] n ts = refl
number_more (m ∷ ns) n ts = ap (λ l. number (decimal m) ∷ l) (number_more ns n ts)
