-- Where the flow rests the first start alone is due.
use Rattle.std.proofs.Common.{◌≡◌, sym, ap, ◌∙◌, ℕ, ◌≤◌, List, take, length, inl, inr, arith}
use Rattle.std.proofs.lemmas.List.{take_all}
use Rattle.periodic.proofs.spots.PlacedFlow.due_starts.Goals as goal

one-at-most : (starts given : List ℕ) → given ≡ starts → length given ≤ 1 → given ≡ take 1 starts
one-at-most starts given is few = is ∙ sym (take_all 1 starts (omega (arith, few, ap length is)))

pub returns : goal.returns
returns c = λ config is within. elim c.else-self.either [
  | inl few ↦ rw few.0 (one-at-most _ _ (c.own_starts-starts.ensures config is within) few.1)
  | inr awake ↦ rw awake (c.own_starts-starts.ensures config is within)
]
