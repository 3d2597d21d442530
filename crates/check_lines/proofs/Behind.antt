-- Pieces that stand one behind another.
use Rattle.std.proofs.Common.{◌≡◌, List, ◌++◌, ap, ◌∙◌, append_assoc}

-- a piece, and what stands behind it
pub then_more : {A : Type 0} (old mid new : List A) (first others : List A) → mid ≡ old ++ first → new ≡ mid ++ others
    → new ≡ old ++ (first ++ others)
then_more {A} old mid new first others one more =
    more ∙ ap (λ (l : List A). l ++ others) one ∙ append_assoc old first others
