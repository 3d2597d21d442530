-- A fact of each entry of a history is one of each that is kept.
use Rattle.std.proofs.Common.{ℕ, zero, suc, List, [], ◌∷◌, drop}
use Rattle.std.specs.List.{AllByRecursion}

-- what holds of each holds of each behind the first few
pub AllByRecursion-drop : {X : Type 0} (P : X → Type 0) (n : ℕ) (xs : List X) → AllByRecursion P xs
    → AllByRecursion P (drop n xs)
AllByRecursion-drop P zero xs all = all
AllByRecursion-drop P (suc n) [] all = tt
AllByRecursion-drop P (suc n) (x ∷ xs) all = AllByRecursion-drop P n xs all.1
