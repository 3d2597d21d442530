-- The spots of a frame that are left at an offset: the walk along the frame carries them with it.
use Rattle.std.specs.Prelude.{◌≡◌, ℕ, ◌≤◌, nat_lt, List, [], ◌∷◌, Contains, if◌then◌else◌}
use Rattle.std.specs.List.{AllByRecursion}
use Rattle.minislots.specs.declared.config.Config.{Config}
use Rattle.periodic.specs.declared.placement.Spot.{Spot}
use Rattle.map_build.specs.Plan.{next_stop}
use Rattle.map_build.specs.Spots.{AreInFrame}

-- the spots but the first one where it begins before the offset
abbrev pub left_at : ℕ → List Spot → List Spot
left_at offset [] = []
left_at offset (s ∷ spots) = if nat_lt s.offset offset then spots else s ∷ spots

-- each spot begins at the offset or later
abbrev pub AreAhead : ℕ → List Spot → Type 0
AreAhead offset spots = AllByRecursion (λ s. offset ≤ s.offset) spots

-- of the spots of a frame these are left at the offset, and no others
pub record AreLeft (c : Config) (spots left : List Spot) (offset : ℕ) : Type 0 where
  pub placed : AreInFrame c left
  pub ahead : AreAhead offset left
  pub some : (s : Spot) → Contains left s → Contains spots s
  pub stops : (at : ℕ) → offset ≤ at → next_stop c spots at ≡ next_stop c left at
