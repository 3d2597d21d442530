-- The tokens of arrays, item by item.
use Rattle.std.proofs.Common.{◌≡◌, ℕ, ◌+◌, ◌<◌, ◌≤◌, List, [], ◌∷◌, ◌++◌, length, get_or, take, map, refl, sym, ap, ◌∙◌}
use Rattle.std.proofs.Common.{append_assoc}
use Rattle.std.proofs.lemmas.List.{append-nil, take_all, take_more}
use Rattle.std.proofs.lemmas.List.Concat.{flat_map-append}
use Rattle.std.specs.Prelude.{flat_map}
use Rattle.json.specs.Token.{Token}
use Rattle.json.specs.Tree.{items_tokens}
use Rattle.serde_json.specs.Data.{Data, array}
use Rattle.serde_json.specs.View.{items_of}
use Rattle.serde_json.specs.Written.{items_outline}
use Rattle.history_writing.specs.Tokens.{tokens_of, joined}

-- the items of an array and its closing bracket
items-tokens : {X : Type 0} (f : X → Data) (xs : List X)
    → items_tokens (items_outline (items_of (map f xs))) ≡ flat_map (λ x. tokens_of (f x)) xs ++ Token.end_array ∷ []
items-tokens f [] = refl
items-tokens f (x ∷ xs) =
    ap (λ (rest : List Token). tokens_of (f x) ++ rest) (items-tokens f xs)
    ∙ sym (append_assoc (tokens_of (f x)) (flat_map (λ x. tokens_of (f x)) xs) (Token.end_array ∷ []))

-- one item more
pub tokens-more : {X : Type 0} (f : X → Data) (xs : List X) (i : ℕ) (d x : X) (before old new : List Token)
    → i < length xs → x ≡ get_or xs i d → old ≡ before ++ flat_map (λ x. tokens_of (f x)) (take i xs)
    → new ≡ old ++ tokens_of (f x)
    → new ≡ before ++ flat_map (λ x. tokens_of (f x)) (take (i + 1) xs)
tokens-more {X} f xs i d x before old new below is so_far more =
    let each = λ (x : X). tokens_of (f x) in
    let front = flat_map each (take i xs) in
    let one_more : flat_map each (take (i + 1) xs) ≡ front ++ tokens_of (f x) =
    ap (flat_map each) (take_more xs i d below)
    ∙ ap (λ y. flat_map each (take i xs ++ y ∷ [])) (sym is)
    ∙ flat_map-append each (take i xs) (x ∷ [])
    ∙ ap (λ (rest : List Token). front ++ rest) (append-nil (tokens_of (f x))) in
    more ∙ ap (λ (known : List Token). known ++ tokens_of (f x)) so_far
    ∙ append_assoc before front (tokens_of (f x))
    ∙ ap (λ (rest : List Token). before ++ rest) (sym one_more)

-- all items between their brackets
pub tokens-all : {X : Type 0} (f : X → Data) (xs : List X) (i : ℕ) (before front old new : List Token)
    → length xs ≤ i
    → old ≡ (before ++ (front ++ Token.begin_array ∷ [])) ++ flat_map (λ x. tokens_of (f x)) (take i xs)
    → new ≡ old ++ Token.end_array ∷ []
    → new ≡ before ++ (front ++ tokens_of (array (items_of (map f xs))))
tokens-all {X} f xs i before front old new past so_far last =
    let each = λ (x : X). tokens_of (f x) in
    let begun = front ++ Token.begin_array ∷ [] in
    let rest = flat_map each xs ++ Token.end_array ∷ [] in
    last
    ∙ ap (λ (known : List Token). known ++ Token.end_array ∷ []) (so_far
    ∙ ap (λ part. (before ++ begun) ++ flat_map each part) (take_all i xs past))
    ∙ append_assoc (before ++ begun) (flat_map each xs) (Token.end_array ∷ [])
    ∙ append_assoc before begun rest
    ∙ ap (λ (more : List Token). before ++ more) (append_assoc front (Token.begin_array ∷ []) rest)
    ∙ ap (λ (more : List Token). before ++ (front ++ Token.begin_array ∷ more)) (sym (items-tokens f xs))

-- tokens, and those behind them
pub then_more : (before first last part rest : List Token) → first ≡ before ++ part → last ≡ first ++ rest
    → last ≡ before ++ (part ++ rest)
then_more before first last part rest is more =
    more ∙ ap (λ (known : List Token). known ++ rest) is ∙ append_assoc before part rest

-- members between their braces
pub wrapped : (before first second last members : List Token) → first ≡ before ++ Token.begin_object ∷ []
    → second ≡ first ++ members → last ≡ second ++ Token.end_object ∷ []
    → last ≡ before ++ (Token.begin_object ∷ (members ++ Token.end_object ∷ []))
wrapped before first second last members begun more ended =
    then_more before first last (Token.begin_object ∷ []) (members ++ Token.end_object ∷ []) begun
    (then_more first second last members (Token.end_object ∷ []) more ended)

-- each list is the one before it and a part
abbrev pub Grow : List Token → List (List Token) → List (List Token) → Type 0
Grow old [] [] = Unit {0}
Grow old [] (part ∷ parts) = ⊥
Grow old (new ∷ news) [] = ⊥
Grow old (new ∷ news) (part ∷ parts) = (new ≡ old ++ part) × Grow new news parts

-- the last of the lists
abbrev pub last_of : List Token → List (List Token) → List Token
last_of old [] = old
last_of old (new ∷ news) = last_of new news

-- what was written part by part is what the parts make together
pub in_turn : (old : List Token) (news parts : List (List Token)) → Grow old news parts
    → last_of old news ≡ old ++ joined parts
in_turn old [] [] grow = sym (append-nil old)
in_turn old [] (part ∷ parts) grow = absurd grow
in_turn old (new ∷ news) [] grow = absurd grow
in_turn old (new ∷ news) (part ∷ parts) grow =
    in_turn new news parts grow.1 ∙ ap (λ (known : List Token). known ++ joined parts) grow.0
    ∙ append_assoc old part (joined parts)
