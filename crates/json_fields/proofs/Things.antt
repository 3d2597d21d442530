-- The things of a list that are read one by one, beside the values that stand for them.
use Rattle.std.proofs.Common.{◌≡◌, ℕ, ◌-◌, ◌<◌, List, [], ◌∷◌, ◌++◌, length, Vec, Global, Some, Result, Ok, Err, refl}
use Rattle.std.specs.Prelude.{IfOk}
use Rattle.json.specs.Token.{Token}
use Rattle.json.specs.Json.{items, value}
use Rattle.serde_json.specs.Data.{Data, array}
use Rattle.serde_json.specs.Read.{of_json, of_items, converted}
use Rattle.serde_json.specs.View.{items_of}
use Rattle.json_fields.specs.declared.plain.Stop.{Stop}
use Rattle.json_fields.proofs.PlainValues.{array_read}
use Rattle.json_fields.specs.Listed.{StandEach, IsListOf}

-- one value more, and what it stands for
pub StandEach-push : {X : Type 0} (stands_for : Data → X → Type 0) (ds : List Data) (xs : List X) (d : Data) (x : X)
    → StandEach stands_for ds xs → stands_for d x → StandEach stands_for (ds ++ d ∷ []) (xs ++ x ∷ [])
StandEach-push stands_for [] [] d x each stands = (stands, tt)
StandEach-push stands_for [] (y ∷ xs) d x each stands = absurd each
StandEach-push stands_for (e ∷ ds) [] d x each stands = absurd each
StandEach-push stands_for (e ∷ ds) (y ∷ xs) d x each stands = (
  each.0,
  StandEach-push stands_for ds xs d x each.1 stands,
)

-- things that were read are those of an array
pub array_of_things : {X : Type 0} (stands_for : Data → X → Type 0) (depth : ℕ) (ts s r : List Token)
    (result : Result (Vec X Global) Stop) → 0 < depth → ts ≡ Token.begin_array ∷ s
    → IfOk result (λ things. (ds : List Data)
    × (converted of_items (items (value (depth - 1)) (length s) s) ≡ Some (items_of ds, r))
    × StandEach stands_for ds things.items)
    → IfOk result (λ things. (d : Data) × (converted of_json (value depth ts) ≡ Some (d, r))
    × IsListOf stands_for d things.items)
array_of_things stands_for depth ts s r (Ok things) some is found = (
  array (items_of found.0),
  array_read depth ts r s (items_of found.0) some is found.1,
  record { items = found.0; array_is = refl; each = found.2 },
)
array_of_things stands_for depth ts s r (Err stop) some is found = tt
