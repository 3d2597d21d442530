-- Starts of a frame that are earlier than others, and such that are not.
use Rattle.std.proofs.Common.{ℕ, List, [], ◌∷◌, inl, inr, arith}
use Rattle.periodic.specs.Choice.{AreEarlier}
use Rattle.periodic.specs.Search.{AreNoLater}

-- no starts are earlier than none
pub none-before-none : (others : List ℕ) → AreEarlier others [] → ⊥
none-before-none [] is = is
none-before-none (other ∷ others) is = is

-- none of which each is no earlier come before these
pub none-before : (starts others : List ℕ) → AreNoLater starts others → AreEarlier others starts → ⊥
none-before [] others later is = none-before-none others is
none-before (start ∷ starts) [] later is = is
none-before (start ∷ starts) (other ∷ others) later is = elim is [
  | inl lower ↦ omega (arith, lower, later.0)
  | inr same ↦ none-before starts others later.1 same.1
]
