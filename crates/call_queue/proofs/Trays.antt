-- A row of trays that grows by one.
use Rattle.std.proofs.Common.{◌≡◌, ◌<◌, ℕ, zero, suc, List, [], ◌∷◌, ◌++◌, sym, subst, arith, length, get_or}
use Rattle.std.specs.List.{All}
use Rattle.std.proofs.lemmas.List.Elements.{All-append}

-- what holds of each of a list and of one behind it
pub All-grown : {X : Type 0} (P : X → Type 0) (xs ys : List X) (x : X) → ys ≡ xs ++ x ∷ [] → All P xs → P x
    → All P ys
All-grown {X} P xs ys x is before here =
    subst (All P) (sym is) (All-append P xs (x ∷ []) before (λ k d small. one k d small)) where
      one : (k : ℕ) (d : X) → k < 1 → P (get_or (x ∷ []) k d)
      one zero d small = here
      one (suc k) d small = absurd (omega arith)
