-- The data that a value of whole numbers, texts, arrays and objects stands for.
use Rattle.std.specs.Prelude.{ℕ, List, [], ◌∷◌, map}
use Rattle.std.specs.Borrow.{Bor}
use Rattle.serde_json.specs.Data.{Data, number, unsigned, string, array, object, Members, no_members, put}
use Rattle.serde_json.specs.View.{items_of}
use Rattle.json_fields.specs.declared.plain.Plain.{Plain, fold-Plain}
use Rattle.json_fields.specs.declared.plain.Plain.TheOpen.{Plain-F}

-- members, put one after the other among those found
abbrev pub put_all : List (Bor (List ℕ) × Data) → Members → Members
put_all [] found = found
put_all (m ∷ ms) found = put_all ms (put m.0.now m.1 found)

-- one level, with each value inside already seen as its data
abbrev pub step_of : Plain-F Data → Data
step_of (Plain-F.Number n) = number (unsigned n)
step_of (Plain-F.Text s) = string s.now
step_of (Plain-F.Array v) = array (items_of v.items)
step_of (Plain-F.Object v) = object (put_all v.items no_members)

-- the data that a value of plain text stands for
abbrev pub data_of : Plain → Data
data_of = fold-Plain Data step_of

-- the members that keys with their values stand for
abbrev pub members_of : List (Bor (List ℕ) × Plain) → Members
members_of ms = put_all (map (λ m. (m.0, data_of m.1)) ms) no_members
