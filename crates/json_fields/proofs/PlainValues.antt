-- Plain values beside the data that they stand for, and the grammar of the tokens that they are read from.
use Rattle.std.proofs.Common.{◌≡◌, ℕ, ◌-◌, ◌<◌, ◌≤◌, Bool, true, false, true≢false, cond, List, [], ◌∷◌, ◌++◌, length}
use Rattle.std.proofs.Common.{map, bytes_eq, Bor, Vec, Global, Option, Some, None, option_map, option_and_then, refl}
use Rattle.std.proofs.Common.{sym, ap, ◌∙◌}
use Rattle.std.proofs.Common.{subst, rules, ◌^◌, get_or, ne_eqb, lt-ltb}
use Rattle.std.specs.Prelude.{SomeIff, IfSome}
use Rattle.fast_float.specs.Text.{Parts, scan, digits_of, IsInteger}
use Rattle.std.proofs.lemmas.List.{map-append}
use Rattle.std.proofs.lemmas.Slice.Eq.{bytes_eq-Decides}
use Rattle.json.specs.Token.{Token}
use Rattle.json.specs.Json as json
use Rattle.json.specs.Json.{Parse, parse_map, read_key, items, members, value}
use Rattle.json.proofs.Grammar.{value_is, value-begin_array, value-begin_object, members_more, members_end}
use Rattle.serde_json.specs.Data.{Data, unsigned, number, string, array, object, Items, Members, no_members, put}
use Rattle.serde_json.specs.Find.{get_member}
use Rattle.serde_json.specs.Read.{number_of, number_from, of_json, of_items, of_members, converted}
use Rattle.serde_json.specs.View.{items_of}
use Rattle.serde_json.proofs.Views.{get_member-put, get_member-put_other}
use Rattle.json_fields.specs.Plain.{put_all, data_of, members_of}
use Rattle.json_fields.specs.declared.plain.Plain.{Plain, Number, Text, Array, Object, the_lemmas}

abbrev Member : Type 0
Member = Bor (List ℕ) × Plain

put_all-push : (ms : List (Bor (List ℕ) × Data)) (m : Bor (List ℕ) × Data) (found : Members)
    → put_all (ms ++ m ∷ []) found ≡ put m.0.now m.1 (put_all ms found)
put_all-push [] m found = refl
put_all-push (x ∷ ms) m found = put_all-push ms m (put x.0.now x.1 found)

abbrev shown : Member → Bor (List ℕ) × Data
shown m = (m.0, data_of m.1)

-- one member more
pub members_of-push : (ms : List Member) (m : Member)
    → members_of (ms ++ m ∷ []) ≡ put m.0.now (data_of m.1) (members_of ms)
members_of-push ms m = ap (λ ds. put_all ds no_members) (map-append shown ms (m ∷ []))
    ∙ put_all-push (map shown ms) (shown m) no_members

-- what is found under a name, once a value was put under a key
pub found_at : (b : Bool) (k name : List ℕ) (d : Data) (ms : Members) → bytes_eq k name ≡ b
    → get_member name (put k d ms) ≡ cond b (Some d) (get_member name ms)
found_at true k name d ms e = subst (λ n. get_member n (put k d ms) ≡ Some d) ((bytes_eq-Decides k name).0 e)
    (get_member-put k d ms)
found_at false k name d ms e = get_member-put_other name k d ms
    (λ (h : name ≡ k). true≢false (sym ((bytes_eq-Decides k name).1 (sym h)) ∙ e))

-- the last member is looked at first
pub get_member-push : (name : List ℕ) (ms : List Member) (m : Member)
    → get_member name (members_of (ms ++ m ∷ []))
    ≡ cond (bytes_eq m.0.now name) (Some (data_of m.1)) (get_member name (members_of ms))
get_member-push name ms m = ap (get_member name) (members_of-push ms m)
    ∙ found_at (bytes_eq m.0.now name) m.0.now name (data_of m.1) (members_of ms) refl

-- the data of an object
pub data_of-Object : (v : Vec Member Global) → data_of (Object v) ≡ object (members_of v.items)
data_of-Object v = search (rules, the_lemmas)

-- the data of an array
pub data_of-Array : (v : Vec Plain Global) → data_of (Array v) ≡ array (items_of (map data_of v.items))
data_of-Array v = search (rules, the_lemmas)

data_of-Number : (n : ℕ) → data_of (Number n) ≡ number (unsigned n)
data_of-Number n = search (rules, the_lemmas)

data_of-Text : (s : Bor (List ℕ)) → data_of (Text s) ≡ string s.now
data_of-Text s = search (rules, the_lemmas)

-- ---- what was read, seen as data

-- what is made of a value that was read is made of what it was read as
pub converted-parse_map : {A B C : Type 0} (f : B → Option C) (g : A → B) (h : A → Option C)
    → ((a : A) → f (g a) ≡ h a)
    → (o : Option (A × List Token)) → converted f (parse_map g o) ≡ converted h o
converted-parse_map f g h same None = refl
converted-parse_map f g h same (Some p) = ap (option_map (λ b. (b, p.1))) (same p.0)

mapped : {A B : Type 0} (g : A → B) (r : List Token) (x : Option A)
    → option_map (λ b. (b, r)) (option_map g x) ≡ parse_map g (option_map (λ a. (a, r)) x)
mapped g r None = refl
mapped g r (Some a) = refl

-- what is read, converted and then mapped, is what is read and converted by both
pub converted-option_map : {A B C : Type 0} (f : A → Option B) (g : B → C) (o : Option (A × List Token))
    → converted (λ a. option_map g (f a)) o ≡ parse_map g (converted f o)
converted-option_map f g None = refl
converted-option_map f g (Some p) = mapped g p.1 (f p.0)

abbrev rest_of : {B : Type 0} → List Token → Option (B × List Token) → List Token
rest_of ts None = ts
rest_of ts (Some p) = p.1

abbrev made_of : {B : Type 0} → B → Option (B × List Token) → B
made_of b None = b
made_of b (Some p) = p.0

came_from : {A B : Type 0} (a : A) (s r : List Token) (x : Option B) (b : B)
    → option_map {U = B × List Token} (λ y. (y, s)) x ≡ Some (b, r)
    → (◌≡◌ {A = Option (A × List Token)} (Some (a, s)) (Some (a, r))) × (x ≡ Some b)
came_from {A = A} {B = B} a s r None b e = absurd (cc)
came_from {A = A} {B = B} a s r (Some y) b e =
    let same : s ≡ r = ap (rest_of s) e in
    let made : y ≡ b = ap (made_of y) e in
    let rest : ◌≡◌ {A = Option (A × List Token)} (Some (a, s)) (Some (a, r)) = ap (λ t. Some (a, t)) same in
    (rest, ap (λ x. Some x) made)

-- what was read as b came from a value that gives b
pub read_as : {A B : Type 0} (f : A → Option B) (o : Option (A × List Token)) (b : B) (r : List Token)
    → converted f o ≡ Some (b, r) → (a : A) × (o ≡ Some (a, r)) × (f a ≡ Some b)
read_as f None b r e = absurd (cc)
read_as f (Some p) b r e = let both = came_from p.0 p.1 r (f p.0) b e in (p.0, both.0, both.1)

module _ (p : Parse json.Json) (n : ℕ) (old : Members) (ts r : List Token) where
  -- a member is put among those before it
  pub member_read : (k : List ℕ) (s : List Token) (d : Data) → 0 < n → read_key ts ≡ Some (Some k, s)
      → converted of_json (p s) ≡ Some (d, r)
      → converted (λ ms. of_members ms old) (members p n ts)
      ≡ converted (λ ms. of_members ms (put k d old)) (members p (n - 1) r)
  member_read k s d some key read =
      let j = read_as of_json (p s) d r read in
      ap (converted (λ ms. of_members ms old)) (members_more p n k ts s r j.0 some key j.1)
      ∙ converted-parse_map (λ ms. of_members ms old) (json.member k j.0) (λ ms. of_members ms (put k d old))
      (λ ms. ap (option_and_then (λ e. of_members ms (put k e old))) j.2) (members p (n - 1) r)

  -- the brace ends them
  pub members_over : length ts ≤ n → read_key ts ≡ Some (None, r)
      → converted (λ ms. of_members ms old) (members p n ts) ≡ Some (old, r)
  members_over enough end = ap (converted (λ ms. of_members ms old)) (members_end p n ts r enough end)

module _ (depth : ℕ) (ts r : List Token) where
  -- an array of items
  pub array_read : (s : List Token) (ds : Items) → 0 < depth → ts ≡ Token.begin_array ∷ s
      → converted of_items (items (value (depth - 1)) (length s) s) ≡ Some (ds, r)
      → converted of_json (value depth ts) ≡ Some (array ds, r)
  array_read s ds some is reads =
      let inside = items (value (depth - 1)) (length s) s in
      ap (converted of_json) (ap (value depth) is ∙ value-begin_array depth s some)
      ∙ converted-parse_map of_json json.array (λ js. option_map array (of_items js)) (λ js. refl) inside
      ∙ converted-option_map of_items array inside
      ∙ ap (parse_map array) reads

  -- a text is read
  pub string_read : (s : List ℕ) → ts ≡ Token.string s ∷ r → converted of_json (value depth ts) ≡ Some (string s, r)
  string_read s is = ap (converted of_json) (ap (value depth) is ∙ value_is depth (Token.string s ∷ r))

  -- a text is read as the data of that text
  pub text_read : (s : Bor (List ℕ)) → ts ≡ Token.string s.now ∷ r
      → converted of_json (value depth ts) ≡ Some (data_of (Text s), r)
  text_read s is = string_read s.now is ∙ ap (λ d. Some (d, r)) (sym (data_of-Text s))

  -- a whole number is read
  pub unsigned_read : (s : List ℕ) (n : ℕ) → ts ≡ Token.number s ∷ r → number_of s ≡ Some (unsigned n)
      → converted of_json (value depth ts) ≡ Some (number (unsigned n), r)
  unsigned_read s n is reads = ap (converted of_json) (ap (value depth) is ∙ value_is depth (Token.number s ∷ r))
      ∙ ap (λ o. option_map (λ d. (d, r)) (option_map number o)) reads

  -- a number is read as the data of that number
  pub number_read : (s : List ℕ) (n : ℕ) → ts ≡ Token.number s ∷ r → number_of s ≡ Some (unsigned n)
      → converted of_json (value depth ts) ≡ Some (data_of (Number n), r)
  number_read s n is reads = unsigned_read s n is reads ∙ ap (λ d. Some (d, r)) (sym (data_of-Number n))

  -- an object of members
  pub object_read : (s : List Token) (ms : Members) → 0 < depth → ts ≡ Token.begin_object ∷ s
      → converted (λ js. of_members js no_members) (members (value (depth - 1)) (length s) s) ≡ Some (ms, r)
      → converted of_json (value depth ts) ≡ Some (object ms, r)
  object_read s ms some is reads =
      let inside = members (value (depth - 1)) (length s) s in
      ap (converted of_json) (ap (value depth) is ∙ value-begin_object depth s some)
      ∙ converted-parse_map of_json json.object (λ js. option_map object (of_members js no_members)) (λ js. refl) inside
      ∙ converted-option_map (λ js. of_members js no_members) object inside
      ∙ ap (parse_map object) reads

-- ---- whole numbers

whole : (p : Parts) → IsInteger p → digits_of p < 2 ^ 64 → number_from false p ≡ Some (unsigned (digits_of p))
whole p is fits = rw (lt-ltb 0 (length p.whole) is.0, is.1, is.2) (rw (lt-ltb (digits_of p) (2 ^ 64) fits) refl)

not_negative : (s : List ℕ) → (get_or s 0 0 ≡ 45 → ⊥) → number_of s ≡ number_from false (scan s)
unfolding number_of
not_negative s positive = rw (ne_eqb (get_or s 0 0) 45 positive) refl

-- digits alone, with no minus before them
pub whole_read : (text s : List ℕ) (p : Parts) (o : Option ℕ) → s ≡ text → p ≡ scan s → (get_or s 0 0 ≡ 45 → ⊥)
    → SomeIff o (IsInteger p × (digits_of p < 2 ^ 64)) (digits_of p)
    → IfSome o (λ n. number_of text ≡ Some (unsigned n))
whole_read text s p None same parts positive found = tt
whole_read text s p (Some n) same parts positive found =
    ap number_of (sym same) ∙ not_negative s positive ∙ ap (number_from false) (sym parts)
    ∙ whole p found.0.0 found.0.1 ∙ ap (λ k. Some (unsigned k)) (sym found.1)
