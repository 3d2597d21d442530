-- Spots that do not begin together.
use Rattle.std.proofs.Common.{◌≡◌, ℕ, zero, suc, ◌<◌, [], ◌∷◌, sym, ◌∙◌, arith}
use Rattle.std.specs.Prelude.{slice_index_or}
use Rattle.periodic.specs.declared.placement.Spot.{Spot}
use Rattle.map_build.proofs.OneMap.{BeginApart}

-- no spots are apart
pub BeginApart-nil : BeginApart []
BeginApart-nil s t cs ct e = absurd (omega (arith, cs.1))

-- the one member of a list
only : (x s : Spot) (k : ℕ) → k < 1 → slice_index_or (x ∷ []) k s ≡ s → x ≡ s
only x s zero h e = e
only x s (suc k) h e = absurd (omega arith)

-- one spot is
pub BeginApart-one : (x : Spot) → BeginApart (x ∷ [])
BeginApart-one x s t cs ct e = sym (only x s cs.0 cs.1 cs.2) ∙ only x t ct.0 ct.1 ct.2
