-- How many starts the placed flows have in each frame of the cycle.
use Rattle.std.specs.Prelude.{◌≡◌, ◌≢◌, ℕ, ◌+◌, ◌*◌, ◌<◌, ◌≤◌, Bool, true, false, List, get_or, length}
use Rattle.minislots.specs.declared.config.Config.{Config}
use Rattle.periodic.specs.declared.TheConstants.{MAX_SPOTS}
use Rattle.periodic.specs.Placement.{Placed, spots_of, spots_in}

-- these are the numbers of starts in the frames of the cycle
abbrev pub AreCounts : Config → List Placed → List ℕ → Type 0
AreCounts c placed counts = (place : ℕ) → place < c.cycle → get_or counts place 0 ≡ length (spots_in c place placed)

-- so many more starts may be counted in a frame, or so many fewer
abbrev pub MayBeCounted : Bool → ℕ → ℕ → Type 0
MayBeCounted true count starts = count + starts ≤ MAX_SPOTS
MayBeCounted false count starts = starts ≤ count

-- they were
abbrev pub AreCounted : Bool → ℕ → ℕ → ℕ → Type 0
AreCounted true old starts new = new ≡ old + starts
AreCounted false old starts new = new + starts ≡ old

-- a flow's starts may be counted in each frame of the cycle, as more or as fewer
abbrev pub MayCount : Config → Placed → Bool → List ℕ → Type 0
MayCount c f taken counts = (place : ℕ) → place < c.cycle
    → MayBeCounted taken (get_or counts place 0) (length (spots_of c place f))

-- they were in the first so many frames of a phase, and the other counts are as they were
pub record AreCountedTo (c : Config) (f : Placed) (taken : Bool) (old new : List ℕ) (phase interval index : ℕ) : Type 0 where
  pub counted : (i : ℕ) → i < index → AreCounted taken (get_or old (phase + i * interval) 0)
      (length (spots_of c (phase + i * interval) f)) (get_or new (phase + i * interval) 0)
  pub rest : (j : ℕ) → ((i : ℕ) → i < index → j ≢ phase + i * interval) → get_or new j 0 ≡ get_or old j 0
