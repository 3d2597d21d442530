-- A value that was read has no more parts than its text has bytes.
use Rattle.std.proofs.Common.{◌≡◌, ℕ, suc, ◌+◌, ◌≤◌, List, [], ◌∷◌, ◌++◌, length, Bool, true, false, Option, Some, None}
use Rattle.std.proofs.Common.{option_map, option_and_then, Ordering, Less, Equal, Greater, refl, subst, ap, arith}
use Rattle.std.proofs.Common.{length-append}
use Rattle.std.specs.Ordering.{match_ordering}
use Rattle.json.specs.Token.{Token, begin_object, end_object, begin_array, end_array, key, string, number, boolean}
use Rattle.json.specs.Token.{null}
use Rattle.json.specs.Token.{bad}
use Rattle.json.specs.Lex.{Lexeme, token, comma, colon, Class, quote, backslash, operator, space, other, Mode, between}
use Rattle.json.specs.Lex.{in_word, in_string, in_escape, class, lex_byte, lex, Place, fresh, after_value, after_comma}
use Rattle.json.specs.Lex.{after_key, begins_colon, may_begin, may_close, if_allowed, place_token, punctuate, tokens}
use Rattle.json.specs.Json as json
use Rattle.json.specs.Tree.{json_tokens, items_tokens, members_tokens}
use Rattle.json.proofs.Unique.Spelling.{value-json_tokens_back}
use Rattle.serde_json.specs.Data as tree
use Rattle.serde_json.specs.Data.{Data, Items, no_items, item, Members, no_members, member, put}
use Rattle.serde_json.specs.Read.{number_of, of_json, of_items, of_members, max_depth, read}

-- ---- the tokens of a text are at most one more than its bytes

lex_byte-length : (m : Mode) (c : Class) (x : ℕ) (xs : List ℕ) (k : Mode → List Lexeme) (n : ℕ)
    → ((next : Mode) → length (k next) ≤ n) → length (lex_byte m c x xs k) ≤ n + 1
lex_byte-length between quote x xs k n h = omega (arith, h in_string)
lex_byte-length between backslash x xs k n h = omega (arith, h in_word)
lex_byte-length between operator x xs k n h = omega (arith, h between)
lex_byte-length between space x xs k n h = omega (arith, h between)
lex_byte-length between other x xs k n h = omega (arith, h in_word)
lex_byte-length in_word quote x xs k n h = omega (arith, h in_word)
lex_byte-length in_word backslash x xs k n h = omega (arith, h in_word)
lex_byte-length in_word operator x xs k n h = omega (arith, h between)
lex_byte-length in_word space x xs k n h = omega (arith, h between)
lex_byte-length in_word other x xs k n h = omega (arith, h in_word)
lex_byte-length in_string quote x xs k n h = omega (arith, h between)
lex_byte-length in_string backslash x xs k n h = omega (arith, h in_escape)
lex_byte-length in_string operator x xs k n h = omega (arith, h in_string)
lex_byte-length in_string space x xs k n h = omega (arith, h in_string)
lex_byte-length in_string other x xs k n h = omega (arith, h in_string)
lex_byte-length in_escape c x xs k n h = omega (arith, h in_string)

lex-length : (m : Mode) (text : List ℕ) → length (lex m text) ≤ length text
unfolding lex
lex-length m [] = omega arith
lex-length m (x ∷ xs) =
    let e = lex_byte-length m (class x) x xs (λ next. lex next xs) (length xs) (λ next. lex-length next xs) in
    omega (arith, e)

if_allowed-length : (allowed : Bool) (t : Token) (k : Place → List Token) (p : Place) (n : ℕ)
    → length (k p) ≤ n → length (if_allowed allowed t k p) ≤ n + 1
if_allowed-length true t k p n h = omega (arith, h)
if_allowed-length false t k p n h = omega arith

place_token-length : (p : Place) (t : Token) (b : Bool) (k : Place → List Token) (n : ℕ)
    → ((next : Place) → length (k next) ≤ n) → length (place_token p t b k) ≤ n + 1
place_token-length p begin_object b k n h = if_allowed-length (may_begin p) begin_object k fresh n (h fresh)
place_token-length p end_object b k n h = if_allowed-length (may_close p) end_object k after_value n (h after_value)
place_token-length p begin_array b k n h = if_allowed-length (may_begin p) begin_array k fresh n (h fresh)
place_token-length p end_array b k n h = if_allowed-length (may_close p) end_array k after_value n (h after_value)
place_token-length p (key s) b k n h = omega arith
place_token-length p (string s) true k n h = if_allowed-length (may_begin p) (key s) k after_key n (h after_key)
place_token-length p (string s) false k n h = if_allowed-length (may_begin p) (string s) k after_value n (h after_value)
place_token-length p (number s) b k n h = if_allowed-length (may_begin p) (number s) k after_value n (h after_value)
place_token-length p (boolean t) b k n h = if_allowed-length (may_begin p) (boolean t) k after_value n (h after_value)
place_token-length p null b k n h = if_allowed-length (may_begin p) null k after_value n (h after_value)
place_token-length p bad b k n h = omega arith

punctuate-length : (p : Place) (ls : List Lexeme) → length (punctuate p ls) ≤ length ls + 1
unfolding punctuate
punctuate-length fresh [] = omega arith
punctuate-length after_value [] = omega arith
punctuate-length after_comma [] = omega arith
punctuate-length after_key [] = omega arith
punctuate-length fresh (token t ∷ ls) =
    let e = place_token-length fresh t (begins_colon ls) (λ next. punctuate next ls) (length ls + 1)
    (λ next. punctuate-length next ls) in
    omega (arith, e)
punctuate-length after_value (token t ∷ ls) =
    let e = place_token-length after_value t (begins_colon ls) (λ next. punctuate next ls) (length ls + 1)
    (λ next. punctuate-length next ls) in
    omega (arith, e)
punctuate-length after_comma (token t ∷ ls) =
    let e = place_token-length after_comma t (begins_colon ls) (λ next. punctuate next ls) (length ls + 1)
    (λ next. punctuate-length next ls) in
    omega (arith, e)
punctuate-length after_key (token t ∷ ls) =
    let e = place_token-length after_key t (begins_colon ls) (λ next. punctuate next ls) (length ls + 1)
    (λ next. punctuate-length next ls) in
    omega (arith, e)
punctuate-length fresh (comma ∷ ls) = omega arith
punctuate-length after_value (comma ∷ ls) = omega (arith, punctuate-length after_comma ls)
punctuate-length after_comma (comma ∷ ls) = omega arith
punctuate-length after_key (comma ∷ ls) = omega arith
punctuate-length fresh (colon ∷ ls) = omega arith
punctuate-length after_value (colon ∷ ls) = omega arith
punctuate-length after_comma (colon ∷ ls) = omega arith
punctuate-length after_key (colon ∷ ls) = omega (arith, punctuate-length fresh ls)

tokens-length : (text : List ℕ) → length (tokens text) ≤ length text + 1
tokens-length text = omega (arith, punctuate-length fresh (lex between text), lex-length between text)

-- ---- the parts of a value are at most as many as its tokens

-- how many parts a value has: itself, and those of its items or members
abbrev mutual
  -- the parts of one value
  pub size : Data → ℕ
  size tree.null = 1
  size (tree.boolean b) = 1
  size (tree.number n) = 1
  size (tree.string s) = 1
  size (tree.array ds) = suc (items_size ds)
  size (tree.object ms) = suc (members_size ms)

  -- the parts of some items
  pub items_size : Items → ℕ
  items_size no_items = 0
  items_size (item d ds) = size d + items_size ds

  -- the parts of some members
  pub members_size : Members → ℕ
  members_size no_members = 0
  members_size (member k d ms) = size d + members_size ms

-- what is there has at most so much of f
abbrev pub AtMost : {A : Type 0} → (A → ℕ) → ℕ → Option A → Type 0
AtMost f n None = Unit {0}
AtMost f n (Some a) = f a ≤ n

AtMost-more : {A : Type 0} (f : A → ℕ) (m n : ℕ) → m ≤ n → (o : Option A) → AtMost f m o → AtMost f n o
AtMost-more f m n le None x = tt
AtMost-more f m n le (Some a) x = omega (arith, le, x)

AtMost-map : {A B : Type 0} (f : A → ℕ) (g : B → ℕ) (m n : ℕ) (h : A → B) → ((a : A) → f a ≤ m → g (h a) ≤ n)
    → (o : Option A) → AtMost f m o → AtMost g n (option_map h o)
AtMost-map f g m n h k None x = tt
AtMost-map f g m n h k (Some a) x = k a x

AtMost-and_then : {A B : Type 0} (f : A → ℕ) (g : B → ℕ) (m n : ℕ) (h : A → Option B)
    → ((a : A) → f a ≤ m → AtMost g n (h a)) → (o : Option A) → AtMost f m o → AtMost g n (option_and_then h o)
AtMost-and_then f g m n h k None x = tt
AtMost-and_then f g m n h k (Some a) x = k a x

members_size-match_ordering : (o : Ordering) (a b c : Members) (n : ℕ) → members_size a ≤ n → members_size b ≤ n
    → members_size c ≤ n → members_size (match_ordering o a b c) ≤ n
members_size-match_ordering Less a b c n p q r = p
members_size-match_ordering Equal a b c n p q r = q
members_size-match_ordering Greater a b c n p q r = r

members_size-put : (k : List ℕ) (d : Data) (ms : Members) → members_size (put k d ms) ≤ size d + members_size ms
members_size-put k d no_members = omega arith
members_size-put k d (member l e ms) =
    members_size-match_ordering _ (member k d (member l e ms)) (member l d ms) (member l e (put k d ms))
    (size d + (size e + members_size ms)) (omega arith) (omega arith) (omega (arith, members_size-put k d ms))

flat : {A : Type 0} (o : Option A) → AtMost (λ _. 0) 0 o
flat None = tt
flat (Some a) = omega arith

mutual
  size-of_json : (j : json.Json) → AtMost size (length (json_tokens j)) (of_json j)
  size-of_json json.null = omega arith
  size-of_json (json.boolean b) = omega arith
  size-of_json (json.number s) = AtMost-map (λ _. 0) size 0 1 tree.number (λ a x. omega arith) (number_of s) (flat _)
  size-of_json (json.string s) = omega arith
  size-of_json (json.array js) = AtMost-map items_size size (length (items_tokens js)) (suc (length (items_tokens js)))
      tree.array (λ a x. omega (arith, x)) (of_items js) (size-of_items js)
  size-of_json (json.object ms) = AtMost-map members_size size (length (members_tokens ms))
      (suc (length (members_tokens ms))) tree.object (λ a x. omega (arith, x)) (of_members ms no_members)
      (size-of_members ms no_members (length (members_tokens ms)) (omega arith))

  size-of_items : (js : json.Items) → AtMost items_size (length (items_tokens js)) (of_items js)
  size-of_items json.no_items = omega arith
  size-of_items (json.item j js) =
      let n = length (json_tokens j ++ items_tokens js) in
      let sum = length-append (json_tokens j) (items_tokens js) in
      AtMost-and_then size items_size (length (json_tokens j)) n (λ d. option_map (item d) (of_items js))
      (λ d x. AtMost-map items_size items_size (length (items_tokens js)) n (item d) (λ ds y. omega (arith, x, y, sum))
      (of_items js) (size-of_items js)) (of_json j) (size-of_json j)

  size-of_members : (ms : json.Members) (found : Members) (n : ℕ) → length (members_tokens ms) + members_size found ≤ n
      → AtMost members_size n (of_members ms found)
  size-of_members json.no_members found n h = omega (arith, h)
  size-of_members (json.member name j ms) found n h =
      let sum = length-append (json_tokens j) (members_tokens ms) in
      AtMost-and_then size members_size (length (json_tokens j)) n (λ d. of_members ms (put name d found))
      (λ d x. size-of_members ms (put name d found) n (omega (arith, x, h, sum, members_size-put name d found)))
      (of_json j) (size-of_json j)

last_within : (o : Option (json.Json × List Token)) (n : ℕ)
    → ((j : json.Json) (r : List Token) → o ≡ Some (j, r) → length (json_tokens j) ≤ n)
    → AtMost (λ j. length (json_tokens j)) n (option_and_then (λ p. json.if_last p.0 p.1) o)
last_within None n h = tt
last_within (Some (j, [])) n h = h j [] refl
last_within (Some (j, t ∷ r)) n h = tt

-- a value that was read has at most one part more than its text has bytes
pub size-read : (text : List ℕ) (d : Data) → read text ≡ Some d → size d ≤ length text + 1
size-read text d e =
    let n = length text + 1 in
    subst (AtMost size n) e
    (AtMost-and_then (λ j. length (json_tokens j)) size n n of_json
    (λ j x. AtMost-more size (length (json_tokens j)) n x (of_json j) (size-of_json j)) _
    (last_within _ n (λ j r is.
    let back = value-json_tokens_back max_depth (tokens text) r j is in
    let same = ap length back in
    let sum = length-append (json_tokens j) r in
    let most = tokens-length text in
    omega (arith, same, sum, most))))
