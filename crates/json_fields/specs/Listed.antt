-- A list of calls, of entries or of scripts in a document, beside its configuration.
use Rattle.std.specs.Prelude.{◌≡◌, ℕ, ◌+◌, List, [], ◌∷◌, codes, Some, option_and_then}
use Rattle.serde_json.specs.Data.{Data, Items, no_items, item, array}
use Rattle.serde_json.specs.Find.{get}
use Rattle.serde_json.specs.View.{items_of}
use Rattle.minislots.specs.declared.config.Config.{Config}
use Rattle.json_fields.specs.Fields.{config_of}

-- how many values these are
abbrev pub count_of : Items → ℕ
count_of no_items = 0
count_of (item d ds) = count_of ds + 1

-- each value stands for the thing in its place
abbrev pub StandEach : {X : Type 0} → (Data → X → Type 0) → List Data → List X → Type 0
StandEach stands_for [] [] = Unit {0}
StandEach stands_for [] (x ∷ xs) = ⊥
StandEach stands_for (d ∷ ds) [] = ⊥
StandEach stands_for (d ∷ ds) (x ∷ xs) = stands_for d x × StandEach stands_for ds xs

-- the value is an array, each item of which stands for the thing in its place
pub record IsListOf {X : Type 0} (stands_for : Data → X → Type 0) (d : Data) (things : List X) : Type 0 where
  pub items : List Data
  pub array_is : d ≡ array (items_of items)
  pub each : StandEach stands_for items things

-- the document has this configuration, and what stands for this list under this name
pub record IsDocument {P : Type 0} (stands_for : Data → P → Type 0) (name : List ℕ) (d : Data) (config : Config)
    (list : P) : Type 0 where
  pub config_is : option_and_then config_of (get (codes "config") d) ≡ Some config
  pub listed : Data
  pub listed_is : get name d ≡ Some listed
  pub stands : stands_for listed list
