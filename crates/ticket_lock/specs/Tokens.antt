-- What the fields of the three tokens are of their seat's view.
use Rattle.std.specs.Prelude.{◌≡◌, ℕ, ◌%◌, ◌^◌, List, [], ◌∷◌, map, Option, None}
use Rattle.ticket_core.specs.declared.SeatState.TheVariants.{Idle, Waiting, Holding}
use Rattle.ticket_lock.specs.declared.board.About.{About}
use Rattle.ticket_lock.specs.declared.board.Part.{Part}
use Rattle.ticket_lock.specs.declared.board.View.{View}
use Rattle.ticket_lock.specs.Standing.{Standing}

module _ {H E : Type 0} where
  -- the view has one part, of this number
  abbrev pub HasNumber : ℕ → View H E → Type 0
  HasNumber number v = (p : Part E) × (v.parts ≡ p ∷ []) × (number ≡ p.number)

  -- an idle seat of this number
  abbrev pub IsIdle : ℕ → View H E → Type 0
  IsIdle number v = HasNumber number v × (v.state ≡ Idle)

  -- a seat of this number that waits with a ticket of this residue
  abbrev pub IsWaiting : ℕ → ℕ → View H E → Type 0
  IsWaiting number residue v = HasNumber number v × ((t : ℕ) × (v.state ≡ Waiting t) × (residue ≡ t % 2 ^ 64))

  -- a seat of this number that holds by a ticket of this residue
  abbrev pub IsHolding : ℕ → ℕ → View H E → Type 0
  IsHolding number residue v = HasNumber number v × ((t : ℕ) × (v.state ≡ Holding t) × (residue ≡ t % 2 ^ 64))

-- what is in the slot that was taken last
abbrev pub carried_in : {T : Type 0} → List (ℕ × Option T) → Option T
carried_in [] = None
carried_in (y ∷ ys) = y.1

-- the part of a seat that stands so
abbrev pub part_of : {H E : Type 0} → Standing H E → Part E
part_of s = record { number = s.number; log = s.log; turns = s.turns }

-- the view of an idle seat that has the parts of these, in their order
abbrev pub IsGathered : {H E : Type 0} → Option (About H E) → List (Standing H E) → View H E → Type 0
IsGathered about seats v = (v.about ≡ about) × (v.state ≡ Idle) × (v.parts ≡ map part_of seats)
