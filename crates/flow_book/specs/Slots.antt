-- Members that stand in slots, in an order of their own: a list has a slot for each place in it.
use Rattle.std.specs.Prelude.{◌≡◌, ℕ, ◌<◌, ◌≤◌, ◌^◌, ◌==◌, List, [], ◌∷◌, map, length, slice_index, slice_index_or}
use Rattle.std.specs.Prelude.{if◌then◌else◌}
use Rattle.flow_book.specs.declared.flow.Flow.{Flow}

-- the members that stand in these slots
abbrev pub picked : {X : Type 0} → List X → List ℕ → List X
picked [] slots = []
picked (x ∷ xs) slots = map (λ s. slice_index_or (x ∷ xs) s x) slots

-- no slot stands twice
pub record AreApart (slots : List ℕ) : Type 0 where
  pub apart : (i j : ℕ) → i < length slots → j < length slots → slice_index slots i ≡ slice_index slots j → i ≡ j

-- each of so many slots stands once
pub record IsOrder (slots : List ℕ) (n : ℕ) : Type 0 where
  pub as_many : length slots ≡ n
  pub below : (i : ℕ) → i < length slots → slice_index slots i < n
  pub apart : AreApart slots
  pub few : n ≤ 2 ^ 16

-- a slot, or where it is `from` the slot `to`
abbrev pub moved : ℕ → ℕ → ℕ → ℕ
moved from to slot = if slot == from then to else slot

-- the SID of the flow in this slot, or 0 where there is none
abbrev pub sid_in : List Flow → ℕ → ℕ
sid_in flows slot = slice_index (map (λ f. f.sid) flows) slot
