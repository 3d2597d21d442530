-- The rows of bits of a cycle of frames, and what they say of the spots.
use Rattle.std.specs.Prelude.{◌≡◌, ℕ, ◌+◌, ◌%◌, ◌<◌, ◌≤◌, ◌⊎◌, List, [], get_or, length}
use Rattle.std.specs.List.{AllByRecursion}
use Rattle.minislots.specs.declared.config.Config.{Config}
use Rattle.periodic.specs.declared.bits.Bits.{Bits}
use Rattle.periodic.specs.declared.placement.Spot.{Spot}
use Rattle.periodic.specs.Bits.{bit_of, IsClear}
use Rattle.periodic.specs.Placement.{Placed, spots_of, spots_in, AreFree}

-- a row of no words
abbrev pub no_bits : Bits
no_bits = record { words = [] }

-- the words of frame k
abbrev pub row_at : Config → List Bits → ℕ → List ℕ
row_at c rows k = (get_or rows (k % c.cycle) no_bits).words

-- the minislot is not the spot's
abbrev pub IsOutside : ℕ → Spot → Type 0
IsOutside m s = (m + 1 ≤ s.offset) ⊎ (s.offset + s.slots ≤ m)

-- The bits say of each minislot whether one of these spots has it
pub record TellsOf (spots : List Spot) (words : List ℕ) : Type 0 where
  pub free : (m : ℕ) → m < 1024 → bit_of words m ≡ 0 → AreFree spots m 1
  pub clear : (m : ℕ) → m < 1024 → AreFree spots m 1 → bit_of words m ≡ 0

-- A row for each frame of the cycle, which says what the placed flows take of it
pub record AreRowsOf (c : Config) (placed : List Placed) (rows : List Bits) : Type 0 where
  pub long : length rows ≡ c.cycle
  pub each : (k : ℕ) → TellsOf (spots_in c k placed) (row_at c rows k)

-- in this frame no more free minislots than these stand in a row behind the request region
abbrev pub HaveAtMost : Config → List ℕ → ℕ → Type 0
HaveAtMost c words most = (start slots : ℕ) → c.req_slots ≤ start → start + slots ≤ c.frame
    → IsClear words start slots → slots ≤ most

-- these are such numbers for the frames of the cycle
abbrev pub AreBounds : Config → List Bits → List ℕ → Type 0
AreBounds c rows most = (place : ℕ) → place < c.cycle → HaveAtMost c (row_at c rows place) (get_or most place 0)

-- the bits of the spot's minislots are this
abbrev pub HasBits : ℕ → List ℕ → Spot → Type 0
HasBits bit words s = (m : ℕ) → m < 1024 → s.offset ≤ m → m < s.offset + s.slots → bit_of words m ≡ bit

-- The bits of the spots were written, and no others
pub record AreMarked (spots : List Spot) (bit : ℕ) (old new : List ℕ) : Type 0 where
  pub inside : AllByRecursion (HasBits bit new) spots
  pub outside : (m : ℕ) → AreFree spots m 1 → bit_of new m ≡ bit_of old m

-- A flow's spots were marked in the frames of the cycle before this place, and the others are as they were
pub record AreMarkedTo (c : Config) (f : Placed) (bit : ℕ) (old new : List Bits) (place : ℕ) : Type 0 where
  pub long : length new ≡ c.cycle
  pub marked : (j : ℕ) → j < place
      → AreMarked (spots_of c j f) bit (get_or old j no_bits).words (get_or new j no_bits).words
  pub rest : (j : ℕ) → place ≤ j → get_or new j no_bits ≡ get_or old j no_bits
