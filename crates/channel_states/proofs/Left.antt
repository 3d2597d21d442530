-- Loops over lists: what holds of all members, by those that are left.
use Rattle.std.proofs.Common.{◌≡◌, sym, ap, ◌∙◌, ℕ, ◌+◌, ◌<◌, List, ◌∷◌, drop, get_or, length}
use Rattle.std.specs.List.{AllByRecursion}
use Rattle.std.proofs.lemmas.List.{drop_more}

-- Of two facts each says what the other does
pub record IsSame (all left : Type 0) : Type 0 where
  pub gives : left → all
  pub needs : all → left

-- it holds of all where it holds of those that are left
abbrev pub IsLeft : {X : Type 0} → (X → Type 0) → List X → ℕ → Type 0
IsLeft P xs i = IsSame (AllByRecursion P xs) (AllByRecursion P (drop i xs))

-- the member at a place is the first of those from there on
pub drop-here : {X : Type 0} (xs : List X) (i : ℕ) (x : X) → i < length xs → x ≡ get_or xs i x
    → drop i xs ≡ x ∷ drop (i + 1) xs
drop-here xs i x within is = drop_more xs i x within ∙ ap (λ y. y ∷ drop (i + 1) xs) (sym is)
