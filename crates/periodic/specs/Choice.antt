-- Which of the lawful placements is taken: the first by its phase, then its offset, then its starts in each frame.
use Rattle.std.specs.Prelude.{◌≡◌, ℕ, ◌<◌, ◌⊎◌, List, [], ◌∷◌}
use Rattle.minislots.specs.declared.config.Config.{Config}
use Rattle.sched_calls.specs.declared.spec.FlowSpec.{FlowSpec}
use Rattle.sched_calls.specs.declared.placement.Placement.{Placement}
use Rattle.periodic.specs.Placement.{Placed, phase_of, offset_of, starts_in, IsPlacement}

-- of two lists of starts in one frame the first is the earlier: at the first place at which they differ its start is
-- the lesser
abbrev pub AreEarlier : List ℕ → List ℕ → Type 0
AreEarlier [] others = ⊥
AreEarlier (start ∷ starts) [] = ⊥
AreEarlier (start ∷ starts) (other ∷ others) = (start < other) ⊎ ((start ≡ other) × AreEarlier starts others)

-- in some frame of the cycle the placement's starts are earlier than the other's, by the first in which they differ
abbrev pub StartsEarlier : Config → FlowSpec → Placement → Placement → Type 0
StartsEarlier c spec p other =
    (place : ℕ) × (place < c.cycle) × AreEarlier (starts_in c spec p place) (starts_in c spec other place)

-- the placement comes before the other: by its phase, or with the same phase by its offset, or with both the same by
-- its starts
abbrev pub ComesBefore : Config → FlowSpec → Placement → Placement → Type 0
ComesBefore c spec p other =
    (phase_of c spec p < phase_of c spec other)
    ⊎ ((phase_of c spec p ≡ phase_of c spec other)
    × ((offset_of c p < offset_of c other)
    ⊎ ((offset_of c p ≡ offset_of c other) × StartsEarlier c spec p other)))

-- A lawful placement before which no lawful placement comes
pub record IsChosen (c : Config) (table : List Placed) (spec : FlowSpec) (next : ℕ) (p : Placement) : Type 0 where
  pub lawful : IsPlacement c table spec next p
  pub first : (other : Placement) → IsPlacement c table spec next other → ComesBefore c spec other p → ⊥
