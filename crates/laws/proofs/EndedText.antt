-- A newline behind a printed text changes none of its tokens.
use Rattle.std.proofs.Common.{◌≡◌, ℕ, Bool, true, false, cond, ◌&&◌, List, [], ◌∷◌, ◌++◌, refl, sym, ap, ap₂, ◌∙◌}
use Rattle.std.proofs.Common.{append_assoc, append-nil}
use Rattle.json.specs.Token.{Token, begin_object, end_object, begin_array, end_array, key, string, number, boolean}
use Rattle.json.specs.Token.{null}
use Rattle.json.specs.Token.{bad}
use Rattle.json.specs.Word.{ends_word, word}
use Rattle.json.specs.Lex.{Lexeme, token, comma, colon, string_token, lex, between, fresh, punctuate, tokens}
use Rattle.json.specs.Print.{escape, quoted, token_text, begins, ends, print_from, print, IsPrintable, ArePrintable}
use Rattle.json.proofs.Printed.Strings.{content-escape, lex-escape}
use Rattle.json.proofs.Printed.Numbers.{lex-number, in_word-ended}
use Rattle.json.proofs.Printed.Tokens.{tokens-print}

-- the lexemes of a token
abbrev token_lexemes : Token → List Lexeme
token_lexemes begin_object = token begin_object ∷ []
token_lexemes end_object = token end_object ∷ []
token_lexemes begin_array = token begin_array ∷ []
token_lexemes end_array = token end_array ∷ []
token_lexemes (key s) = token (string s) ∷ colon ∷ []
token_lexemes (string s) = token (string s) ∷ []
token_lexemes (number s) = token (number s) ∷ []
token_lexemes (boolean b) = token (boolean b) ∷ []
token_lexemes null = token null ∷ []
token_lexemes bad = []

-- the lexemes of tokens, after a value or not
abbrev lexemes : Bool → List Token → List Lexeme
lexemes c [] = []
lexemes c (t ∷ ts) = cond (c && begins t) (comma ∷ []) [] ++ (token_lexemes t ++ lexemes (ends t) ts)

-- after a value stands a comma, a closing bracket or the end
after_value-ends : (ts : List Token) (r : List ℕ) → ends_word r ≡ true → ends_word (print_from true ts ++ r) ≡ true
unfolding print_from
after_value-ends [] r h = h
after_value-ends (begin_object ∷ ts) r h = refl
after_value-ends (end_object ∷ ts) r h = refl
after_value-ends (begin_array ∷ ts) r h = refl
after_value-ends (end_array ∷ ts) r h = refl
after_value-ends (key s ∷ ts) r h = refl
after_value-ends (string s ∷ ts) r h = refl
after_value-ends (number s ∷ ts) r h = refl
after_value-ends (boolean b ∷ ts) r h = refl
after_value-ends (null ∷ ts) r h = refl
after_value-ends (bad ∷ ts) r h = refl

lex-quoted : (s r : List ℕ) → lex between (quoted s ++ r) ≡ token (string s) ∷ lex between r
unfolding lex
lex-quoted s r =
    let e = append_assoc (escape s) (34 ∷ []) r in
    ap (λ l. lex between (34 ∷ l)) e
    ∙ ap₂ (λ o l. token (string_token o) ∷ l) (content-escape s r) (lex-escape s r)

lex-token_text : (t : Token) (r : List ℕ) → IsPrintable t → (ends t ≡ true → ends_word r ≡ true)
    → lex between (token_text t ++ r) ≡ token_lexemes t ++ lex between r
unfolding lex word
lex-token_text begin_object r h ended = refl
lex-token_text end_object r h ended = refl
lex-token_text begin_array r h ended = refl
lex-token_text end_array r h ended = refl
lex-token_text (key s) r h ended =
    ap (lex between) (append_assoc (quoted s) (58 ∷ []) r) ∙ lex-quoted s (58 ∷ r)
lex-token_text (string s) r h ended = lex-quoted s r
lex-token_text (number s) r h ended = lex-number s r h (ended refl)
lex-token_text (boolean true) r h ended =
    ap₂ (λ b l. token (cond b (boolean true) bad) ∷ l) (ended refl) (in_word-ended r (ended refl))
lex-token_text (boolean false) r h ended =
    ap₂ (λ b l. token (cond b (boolean false) bad) ∷ l) (ended refl) (in_word-ended r (ended refl))
lex-token_text null r h ended =
    ap₂ (λ b l. token (cond b null bad) ∷ l) (ended refl) (in_word-ended r (ended refl))
lex-token_text bad r h ended = absurd h

lex-separator : (b : Bool) (r : List ℕ)
    → lex between (cond b (44 ∷ []) [] ++ r) ≡ cond b (comma ∷ []) [] ++ lex between r
unfolding lex
lex-separator true r = refl
lex-separator false r = refl

-- a text and what stands behind it
lex-print_from : (c : Bool) (ts : List Token) (r : List ℕ) → ArePrintable ts → ends_word r ≡ true
    → lex between (print_from c ts ++ r) ≡ lexemes c ts ++ lex between r
unfolding print_from ArePrintable
lex-print_from c [] r h ended = refl
lex-print_from c (t ∷ ts) r h ended =
    let comma_text = cond (c && begins t) (44 ∷ []) [] in
    let rest = print_from (ends t) ts in
    let commas = cond (c && begins t) (comma ∷ []) [] in
    let behind : ends t ≡ true → ends_word (rest ++ r) ≡ true =
    λ e. ap (λ b. ends_word (print_from b ts ++ r)) e ∙ after_value-ends ts r ended in
    ap (lex between) (append_assoc comma_text (token_text t ++ rest) r
    ∙ ap (λ l. comma_text ++ l) (append_assoc (token_text t) rest r))
    ∙ lex-separator (c && begins t) (token_text t ++ (rest ++ r))
    ∙ ap (λ l. commas ++ l) (lex-token_text t (rest ++ r) h.0 behind
    ∙ ap (λ l. token_lexemes t ++ l) (lex-print_from (ends t) ts r h.1 ended)
    ∙ sym (append_assoc (token_lexemes t) (lexemes (ends t) ts) (lex between r)))
    ∙ sym (append_assoc commas (token_lexemes t ++ lexemes (ends t) ts) (lex between r))

lex-newline : lex between (10 ∷ []) ≡ []
unfolding lex
lex-newline = refl

lex-end : lex between [] ≡ []
unfolding lex
lex-end = refl

-- the tokens of a printed text and a newline
pub tokens-ended : (ts : List Token) → ArePrintable ts → tokens (print ts ++ 10 ∷ []) ≡ ts
tokens-ended ts h =
    let with_newline = lex-print_from false ts (10 ∷ []) h refl ∙ ap (λ l. lexemes false ts ++ l) lex-newline in
    let alone = lex-print_from false ts [] h refl ∙ ap (λ l. lexemes false ts ++ l) lex-end in
    ap (punctuate fresh) (with_newline ∙ sym alone) ∙ ap tokens (append-nil (print ts)) ∙ tokens-print ts h
