-- An array that is read item by item.
use Rattle.std.proofs.Common.{◌≡◌, ℕ, suc, ◌+◌, ◌-◌, ◌<◌, ◌≤◌, List, [], ◌∷◌, ◌++◌, length, get_or, drop, Option}
use Rattle.std.proofs.Common.{Some, None, option_map, option_and_then, refl, sym, ap, ◌∙◌, arith}
use Rattle.std.proofs.Math.Numerals.{add-one}
use Rattle.std.proofs.Math.Seq.{drop-cons}
use Rattle.json.specs.Token.{Token}
use Rattle.json.specs.Json as json
use Rattle.json.specs.Json.{Parse, parse_map, after_end_array, items}
use Rattle.json.proofs.Grammar.{items_more, items_end}
use Rattle.serde_json.specs.Data.{Data, Items, no_items, item}
use Rattle.serde_json.specs.Read.{of_json, of_items, converted}
use Rattle.serde_json.specs.View.{items_of, view, items_view}
use Rattle.serde_json.specs.declared.value.Value.{Value}
use Rattle.json_fields.proofs.PlainValues.{converted-parse_map, converted-option_map, read_as}

abbrev Read : Type 0 → Type 0
Read A = Option (A × List Token)

-- the items that were read, and then those that follow
abbrev pub items_then : List Data → Items → Items
items_then [] rest = rest
items_then (d ∷ ds) rest = item d (items_then ds rest)

items_then-push : (ds : List Data) (d : Data) (rest : Items)
    → items_then ds (item d rest) ≡ items_then (ds ++ d ∷ []) rest
items_then-push [] d rest = refl
items_then-push (e ∷ ds) d rest = ap (item e) (items_then-push ds d rest)

items_then-end : (ds : List Data) → items_then ds no_items ≡ items_of ds
items_then-end [] = refl
items_then-end (d ∷ ds) = ap (item d) (items_then-end ds)

-- the items that are left, behind those that were read
abbrev pub behind : List Data → Read Items → Read Items
behind ds left = parse_map (items_then ds) left

behind-none : (left : Read Items) → left ≡ behind [] left
behind-none None = refl
behind-none (Some p) = refl

behind-more : (ds : List Data) (d : Data) (left : Read Items)
    → behind ds (parse_map (item d) left) ≡ behind (ds ++ d ∷ []) left
behind-more ds d None = refl
behind-more ds d (Some p) = ap (λ (all : Items). Some (all, p.1)) (items_then-push ds d p.0)

module _ (p : Parse json.Json) where
  module _ (n : ℕ) (ts r : List Token) where
    item_read : (d : Data) → 0 < n → after_end_array ts ≡ None → converted of_json (p ts) ≡ Some (d, r)
        → converted of_items (items p n ts) ≡ parse_map (item d) (converted of_items (items p (n - 1) r))
    item_read d some more reads =
        let j = read_as of_json (p ts) d r reads in
        ap (converted of_items) (items_more p n ts r j.0 some more j.1)
        ∙ converted-parse_map of_items (json.item j.0) (λ js. option_map (item d) (of_items js))
        (λ js. ap (option_and_then (λ e. option_map (item e) (of_items js))) j.2) (items p (n - 1) r)
        ∙ converted-option_map of_items (item d) (items p (n - 1) r)

  -- the items that were read stand before those from these tokens on
  abbrev pub ItemsLeft : List Token → List Data → List Token → Type 0
  ItemsLeft whole ds ts = (n : ℕ) × (length ts ≤ n)
      × (converted of_items (items p (length whole) whole) ≡ behind ds (converted of_items (items p n ts)))
      × (length ts ≤ length whole)

  -- none was read
  pub ItemsLeft-none : (whole : List Token) (ds : List Data) → ds ≡ [] → ItemsLeft whole ds whole
  ItemsLeft-none whole ds none =
      let all = converted of_items (items p (length whole) whole) in
      (length whole, omega arith, behind-none all ∙ ap (λ l. behind l all) (sym none), omega arith)

  module _ (whole ts r : List Token) (ds : List Data) (left : ItemsLeft whole ds ts) where
    -- one item more
    pub ItemsLeft-more : (more : List Data) (d : Data) → after_end_array ts ≡ None
        → converted of_json (p ts) ≡ Some (d, r)
        → length r < length ts → more ≡ ds ++ d ∷ [] → ItemsLeft whole more r
    ItemsLeft-more more d going reads shorter pushed =
        let n = left.0 in
        let rest = converted of_items (items p (n - 1) r) in (
          n - 1,
          omega (arith, left.1, shorter),
          left.2 ∙ ap (behind ds) (item_read n ts r d (omega (arith, left.1, shorter)) going reads)
              ∙ behind-more ds d rest ∙ ap (λ l. behind l rest) (sym pushed),
          omega (arith, left.3, shorter),
        )

    -- the bracket ends them
    pub items_over : after_end_array ts ≡ Some r
        → converted of_items (items p (length whole) whole) ≡ Some (items_of ds, r)
    items_over end = left.2
        ∙ ap (λ o. behind ds (converted of_items o)) (items_end p left.0 ts r left.1 end)
        ∙ ap (λ (all : Items). Some (all, r)) (items_then-end ds)

-- the values that are left begin with the one at the index
pub items_view-here : (values : List Value) (i : ℕ) (v : Value) → i < length values → v ≡ get_or values i v
    → items_view (drop i values) ≡ item (view v) (items_view (drop (i + 1) values))
items_view-here values i v within is =
    let front : drop i values ≡ v ∷ drop (i + 1) values =
    rw (drop-cons values i v within, add-one) (ap (λ (x : Value). x ∷ drop (suc i) values) (sym is)) in
    ap items_view front
