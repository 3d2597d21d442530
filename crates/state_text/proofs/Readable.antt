-- A value of whole numbers that fit 64 bits, and of keys in order, is read again in its compact text, in which no
-- object has a key twice.
use Rattle.std.proofs.Common.{◌≡◌, ℕ, suc, ◌<◌, ◌≤◌, ◌^◌, max, List, [], ◌∷◌, ◌++◌, Bool, true, false, Some}
use Rattle.std.proofs.Common.{option_map, option_and_then, decimal, IsUtf8, refl, sym, ap, ap₂, ◌∙◌, append-nil}
use Rattle.std.proofs.Common.{◌||◌, subst, arith}
use Rattle.std.specs.Prelude.{IsSomeAnd}
use Rattle.std.proofs.lemmas.Fmt.{IsAscii-decimal}
use Rattle.std.proofs.lemmas.Str.{IsUtf8-append, IsUtf8-nil, IsUtf8-from_ascii}
use Rattle.json.specs.Json as json
use Rattle.json.specs.Tree as trees
use Rattle.json.specs.Tree.{json_tokens, HasNumbers, ItemsHaveNumbers, MembersHaveNumbers}
use Rattle.json.specs.Lex.{tokens}
use Rattle.json.specs.Strict.{AreDistinct, keys, HasUniqueKeys, ItemsHaveUniqueKeys, MembersHaveUniqueKeys}
use Rattle.json.specs.Print.{quoted}
use Rattle.json.proofs.Printed.Decimals.{IsNumber-decimal}
use Rattle.json.proofs.Printed.Tokens.{tokens-print}
use Rattle.json.proofs.Printed.Trees.{value-json_tokens, ArePrintable-json_tokens}
use Rattle.json.proofs.Printed.Utf8.{are_ascii, IsUtf8-are_ascii, IsUtf8-quoted}
use Rattle.serde_json.specs.Data.{Num, unsigned, negative, float, Data, null, boolean, number, string, array, object}
use Rattle.serde_json.specs.Data.{Items, no_items, item, Members, no_members, member, put, depth, items_depth}
use Rattle.serde_json.specs.Data.{members_depth}
use Rattle.serde_json.specs.Read.{of_json, of_items, of_members, read, max_depth}
use Rattle.serde_json.specs.Written.{outline, items_outline, members_outline, comma_if, compact_text, items_text}
use Rattle.serde_json.specs.Written.{members_text, has_float, items_have_float, members_have_float}
use Rattle.serde_json.proofs.Numbers.{number_of-decimal}
use Rattle.serde_json.proofs.Texts.{print-outline}
use Rattle.state_text.proofs.Ordered.{keys_of, put_each, keys_differ}

-- a whole number of 64 bits
abbrev pub FitsWord : Num → Type 0
FitsWord (unsigned n) = n < 2 ^ 64
FitsWord (negative z) = ⊥
FitsWord (float x) = ⊥

-- numbers fit, texts are UTF-8, and keys are in order
abbrev mutual
  -- the same of one value
  pub IsReadable : Data → Type 0
  IsReadable null = Unit {0}
  IsReadable (boolean b) = Unit {0}
  IsReadable (number n) = FitsWord n
  IsReadable (string s) = IsUtf8 s
  IsReadable (array ds) = AreReadable ds
  IsReadable (object ms) = (put_each ms no_members ≡ ms) × MembersReadable ms

  -- the same of each item
  pub AreReadable : Items → Type 0
  AreReadable no_items = Unit {0}
  AreReadable (item d ds) = IsReadable d × AreReadable ds

  -- the same of each member
  pub MembersReadable : Members → Type 0
  MembersReadable no_members = Unit {0}
  MembersReadable (member k d ms) = (are_ascii k ≡ true) × IsReadable d × MembersReadable ms

-- ---- the value of the outline

some_number : (n : Num) → FitsWord n → of_json (outline (number n)) ≡ Some (number n)
some_number (unsigned n) h = ap (option_map number) (number_of-decimal n h)
some_number (negative z) h = absurd h
some_number (float x) h = absurd h

mutual
  of_json-outline : (d : Data) → IsReadable d → of_json (outline d) ≡ Some d
  of_json-outline null h = refl
  of_json-outline (boolean b) h = refl
  of_json-outline (number n) h = some_number n h
  of_json-outline (string s) h = refl
  of_json-outline (array ds) h = ap (option_map array) (of_items-outline ds h)
  of_json-outline (object ms) h =
      ap (option_map object) (of_members-outline ms no_members h.1) ∙ ap (λ found. Some (object found)) h.0

  of_items-outline : (ds : Items) → AreReadable ds → of_items (items_outline ds) ≡ Some ds
  of_items-outline no_items h = refl
  of_items-outline (item d ds) h =
      ap (option_and_then (λ e. option_map (item e) (of_items (items_outline ds)))) (of_json-outline d h.0)
      ∙ ap (option_map (item d)) (of_items-outline ds h.1)

  of_members-outline : (ms found : Members) → MembersReadable ms
      → of_members (members_outline ms) found ≡ Some (put_each ms found)
  of_members-outline no_members found h = refl
  of_members-outline (member k d ms) found h =
      ap (option_and_then (λ e. of_members (members_outline ms) (put k e found))) (of_json-outline d h.1)
      ∙ of_members-outline ms (put k d found) h.2

-- ---- its numbers and its depth

word_has_number : (n : Num) → FitsWord n → HasNumbers (outline (number n))
word_has_number (unsigned n) h = IsNumber-decimal n h
word_has_number (negative z) h = absurd h
word_has_number (float x) h = absurd h

mutual
  pub has_numbers : (d : Data) → IsReadable d → HasNumbers (outline d)
  has_numbers null h = tt
  has_numbers (boolean b) h = tt
  has_numbers (number n) h = word_has_number n h
  has_numbers (string s) h = tt
  has_numbers (array ds) h = items_have_numbers ds h
  has_numbers (object ms) h = members_have_numbers ms h.1

  items_have_numbers : (ds : Items) → AreReadable ds → ItemsHaveNumbers (items_outline ds)
  items_have_numbers no_items h = tt
  items_have_numbers (item d ds) h = (has_numbers d h.0, items_have_numbers ds h.1)

  members_have_numbers : (ms : Members) → MembersReadable ms → MembersHaveNumbers (members_outline ms)
  members_have_numbers no_members h = tt
  members_have_numbers (member k d ms) h = (has_numbers d h.1, members_have_numbers ms h.2)

mutual
  depth-outline : (d : Data) → trees.depth (outline d) ≡ depth d
  depth-outline null = refl
  depth-outline (boolean b) = refl
  depth-outline (number n) = refl
  depth-outline (string s) = refl
  depth-outline (array ds) = ap suc (items_depth-outline ds)
  depth-outline (object ms) = ap suc (members_depth-outline ms)

  items_depth-outline : (ds : Items) → trees.items_depth (items_outline ds) ≡ items_depth ds
  items_depth-outline no_items = refl
  items_depth-outline (item d ds) = ap₂ max (depth-outline d) (items_depth-outline ds)

  members_depth-outline : (ms : Members) → trees.members_depth (members_outline ms) ≡ members_depth ms
  members_depth-outline no_members = refl
  members_depth-outline (member k d ms) = ap₂ max (depth-outline d) (members_depth-outline ms)

-- a text with the tokens of the value is read as the value
pub read-tokens : (d : Data) → IsReadable d → depth d ≤ max_depth → (text : List ℕ)
    → tokens text ≡ json_tokens (outline d) → read text ≡ Some d
read-tokens d h shallow text are =
    let ts = json_tokens (outline d) in
    let deep = depth-outline d in
    ap (λ o. option_and_then of_json (option_and_then (λ p. json.if_last p.0 p.1) o))
    (ap (json.value max_depth) (are ∙ sym (append-nil ts))
    ∙ value-json_tokens (outline d) max_depth [] (omega (arith, deep, shallow)))
    ∙ of_json-outline d h

-- the text alone is read as the value
pub read-alone : (d : Data) → IsReadable d → depth d ≤ max_depth → read (compact_text d) ≡ Some d
read-alone d h shallow =
    let ts = json_tokens (outline d) in
    read-tokens d h shallow (compact_text d) (ap tokens (sym (print-outline d))
    ∙ tokens-print ts (ArePrintable-json_tokens (outline d) (has_numbers d h)))

-- ---- its keys

keys-outline : (ms : Members) → keys (members_outline ms) ≡ keys_of ms
keys-outline no_members = refl
keys-outline (member k d ms) = ap (λ (ks : List (List ℕ)). k ∷ ks) (keys-outline ms)

mutual
  unique_keys : (d : Data) → IsReadable d → HasUniqueKeys (outline d)
  unique_keys null h = tt
  unique_keys (boolean b) h = tt
  unique_keys (number n) h = tt
  unique_keys (string s) h = tt
  unique_keys (array ds) h = items_unique_keys ds h
  unique_keys (object ms) h =
      (subst AreDistinct (sym (keys-outline ms)) (keys_differ ms h.0), members_unique_keys ms h.1)

  items_unique_keys : (ds : Items) → AreReadable ds → ItemsHaveUniqueKeys (items_outline ds)
  items_unique_keys no_items h = tt
  items_unique_keys (item d ds) h = (unique_keys d h.0, items_unique_keys ds h.1)

  members_unique_keys : (ms : Members) → MembersReadable ms → MembersHaveUniqueKeys (members_outline ms)
  members_unique_keys no_members h = tt
  members_unique_keys (member k d ms) h = (unique_keys d h.1, members_unique_keys ms h.2)

-- no object in the text has a key twice
pub once-alone : (d : Data) → IsReadable d → depth d ≤ max_depth
    → IsSomeAnd (json.document (compact_text d)) HasUniqueKeys
once-alone d h shallow =
    let ts = json_tokens (outline d) in
    let deep = depth-outline d in
    let are : tokens (compact_text d) ≡ ts =
    ap tokens (sym (print-outline d)) ∙ tokens-print ts (ArePrintable-json_tokens (outline d) (has_numbers d h)) in
    let is : json.document (compact_text d) ≡ Some (outline d) =
    ap (λ o. option_and_then (λ p. json.if_last p.0 p.1) o)
    (ap (json.value json.max_depth) (are ∙ sym (append-nil ts))
    ∙ value-json_tokens (outline d) json.max_depth [] (omega (arith, deep, shallow))) in
    subst (λ o. IsSomeAnd o HasUniqueKeys) (sym is) (unique_keys d h)

-- ---- it has no float

no_float_word : (n : Num) → FitsWord n → has_float (number n) ≡ false
no_float_word (unsigned n) h = refl
no_float_word (negative z) h = absurd h
no_float_word (float x) h = absurd h

mutual
  -- none of its numbers is a float
  pub no_float : (d : Data) → IsReadable d → has_float d ≡ false
  no_float null h = refl
  no_float (boolean b) h = refl
  no_float (number n) h = no_float_word n h
  no_float (string s) h = refl
  no_float (array ds) h = items_no_float ds h
  no_float (object ms) h = members_no_float ms h.1

  items_no_float : (ds : Items) → AreReadable ds → items_have_float ds ≡ false
  items_no_float no_items h = refl
  items_no_float (item d ds) h = ap₂ (λ a b. a || b) (no_float d h.0) (items_no_float ds h.1)

  members_no_float : (ms : Members) → MembersReadable ms → members_have_float ms ≡ false
  members_no_float no_members h = refl
  members_no_float (member k d ms) h = ap₂ (λ a b. a || b) (no_float d h.1) (members_no_float ms h.2)

-- ---- its text is UTF-8

IsUtf8-word : (n : Num) → FitsWord n → IsUtf8 (compact_text (number n))
IsUtf8-word (unsigned n) h = IsUtf8-from_ascii (decimal n) (IsAscii-decimal n h)
IsUtf8-word (negative z) h = absurd h
IsUtf8-word (float x) h = absurd h

IsUtf8-comma : (later : Bool) → IsUtf8 (comma_if later)
IsUtf8-comma true = IsUtf8-are_ascii (44 ∷ []) refl
IsUtf8-comma false = IsUtf8-nil

IsUtf8-one : (x : ℕ) (text : List ℕ) → are_ascii (x ∷ []) ≡ true → IsUtf8 text → IsUtf8 (x ∷ text)
IsUtf8-one x text small h = IsUtf8-append (x ∷ []) text (IsUtf8-are_ascii (x ∷ []) small) h

mutual
  -- the text of readable data is UTF-8
  pub IsUtf8-compact : (d : Data) → IsReadable d → IsUtf8 (compact_text d)
  IsUtf8-compact null h = IsUtf8-are_ascii (compact_text null) refl
  IsUtf8-compact (boolean true) h = IsUtf8-are_ascii (compact_text (boolean true)) refl
  IsUtf8-compact (boolean false) h = IsUtf8-are_ascii (compact_text (boolean false)) refl
  IsUtf8-compact (number n) h = IsUtf8-word n h
  IsUtf8-compact (string s) h = IsUtf8-quoted s h
  IsUtf8-compact (array ds) h = IsUtf8-one 91 (items_text false ds) refl (IsUtf8-items false ds h)
  IsUtf8-compact (object ms) h = IsUtf8-one 123 (members_text false ms) refl (IsUtf8-members false ms h.1)

  IsUtf8-items : (later : Bool) (ds : Items) → AreReadable ds → IsUtf8 (items_text later ds)
  IsUtf8-items later no_items h = IsUtf8-are_ascii (93 ∷ []) refl
  IsUtf8-items later (item d ds) h =
      IsUtf8-append (comma_if later) (compact_text d ++ items_text true ds) (IsUtf8-comma later)
      (IsUtf8-append (compact_text d) (items_text true ds) (IsUtf8-compact d h.0) (IsUtf8-items true ds h.1))

  IsUtf8-members : (later : Bool) (ms : Members) → MembersReadable ms → IsUtf8 (members_text later ms)
  IsUtf8-members later no_members h = IsUtf8-are_ascii (125 ∷ []) refl
  IsUtf8-members later (member k d ms) h =
      let rest = compact_text d ++ members_text true ms in
      IsUtf8-append (comma_if later) (quoted k ++ 58 ∷ rest) (IsUtf8-comma later)
      (IsUtf8-append (quoted k) (58 ∷ rest) (IsUtf8-quoted k (IsUtf8-are_ascii k h.0))
      (IsUtf8-one 58 rest refl
      (IsUtf8-append (compact_text d) (members_text true ms) (IsUtf8-compact d h.1) (IsUtf8-members true ms h.2))))
