-- The first data grant of a flow under a rate ceiling.
use Rattle.std.proofs.Common.{ℕ, zero, suc, ◌≤◌, [], ◌∷◌, arith}
use Rattle.minislots.specs.declared.config.Config.{Config}
use Rattle.flow_book.specs.declared.flow.Grant.{Grant}
use Rattle.flow_book.specs.Flows.{charge_of}
use Rattle.flow_book.specs.Ceiling.{KeepsCeiling}

-- a first grant of at most the burst keeps the ceiling
pub KeepsCeiling-first : (c : Config) (rate burst : ℕ) (g : Grant) → g.bytes ≤ burst
    → KeepsCeiling c rate burst (charge_of g ∷ [])
KeepsCeiling-first c rate burst g few limited zero zero h k = omega arith
KeepsCeiling-first c rate burst g few limited (suc i) zero h k = absurd (omega arith)
KeepsCeiling-first c rate burst g few limited i (suc j) h k = absurd (omega arith)
