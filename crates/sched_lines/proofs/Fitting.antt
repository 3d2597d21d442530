-- A fact of each member of a list, from front to front.
use Rattle.std.proofs.Common.{ℕ, ◌+◌, ◌<◌, List, [], ◌∷◌, ◌++◌, length, get_or, take}
use Rattle.std.specs.List.{AllByRecursion}
use Rattle.std.proofs.lemmas.List.{take_more}

module _ {X : Type 0} (P : X → Type 0) where
  -- it holds of one member more at the end
  pub all-push : (xs : List X) (x : X) → AllByRecursion P xs → P x → AllByRecursion P (xs ++ x ∷ [])
  all-push [] x all one = (one, tt)
  all-push (y ∷ ys) x all one = (all.0, all-push ys x all.1 one)

  -- of a front that is one longer
  pub all-more : (xs : List X) (i : ℕ) (d : X) → i < length xs → AllByRecursion P (take i xs) → P (get_or xs i d)
      → AllByRecursion P (take (i + 1) xs)
  all-more xs i d below front one = rw (take_more xs i d below) (all-push (take i xs) (get_or xs i d) front one)
