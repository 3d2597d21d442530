-- A lock and a standing at it, as contracts see them.
use Rattle.std.specs.Prelude.{ℕ, ◌%◌, ◌^◌, List, [], ◌∷◌, ◌++◌, map, filter, Option, Some, None, ◌==◌}
use Rattle.atomic_table.specs.Seated.{TableId}
use Rattle.minislots.specs.declared.stamp.Stamp.{Stamp}
use Rattle.ticket_core.specs.declared.SeatState.{SeatState}
use Rattle.ticket_core.specs.declared.SeatState.TheVariants.{Idle, Waiting, Holding}
use Rattle.ticket_lock.specs.declared.board.About.{About}
use Rattle.ticket_lock.specs.declared.board.Logged.{Logged}
use Rattle.ticket_lock.specs.declared.board.Part.{Part}
use Rattle.ticket_lock.specs.declared.board.View.{View}
use Rattle.ticket_lock.specs.Rule.{entry_of, head_in}

-- which lock it is, and what it was opened about
pub record Lock (H E : Type 0) : Type 0 where
  pub table : TableId
  pub about : Option (About H E)

-- where a seat of a lock stands: its number, the log past the opening list that it has seen, its whole ticket (0
-- where it has none), how often it has looked, and how many turns it has ended
pub record Standing (H E : Type 0) : Type 0 where
  pub lock : Lock H E
  pub number : ℕ
  pub log : List (Logged E)
  pub ticket : ℕ
  pub looks : ℕ
  pub turns : ℕ

module _ {H E : Type 0} where
  -- the opening list in it
  abbrev pub opening_in : Option (About H E) → List E
  opening_in None = []
  opening_in (Some a) = a.opening

  -- the number of seats in it
  abbrev pub seats_in : Option (About H E) → ℕ
  seats_in None = 0
  seats_in (Some a) = a.seats

  -- the first ticket in it
  abbrev pub first_in : Option (About H E) → ℕ
  first_in None = 0
  first_in (Some a) = a.first

  -- the head of the value that a lock keeps
  abbrev pub head_of : Lock H E → Option H
  head_of l = head_in l.about

  -- the entries that it had at the opening
  abbrev pub opening_of : Lock H E → List E
  opening_of l = opening_in l.about

  -- how many seats a lock has
  abbrev pub seats_of : Lock H E → ℕ
  seats_of l = seats_in l.about

  -- the first ticket of a lock
  abbrev pub first_of : Lock H E → ℕ
  first_of l = first_in l.about

  -- how many turns a seat has ended
  abbrev pub turns_of : Standing H E → ℕ
  turns_of s = s.turns

  -- all the entries that a seat has seen
  abbrev pub seen : Standing H E → List E
  seen s = opening_of s.lock ++ map entry_of s.log

-- the entries of a log that bear this number
abbrev pub made_by : {E : Type 0} → (E → Stamp) → ℕ → List (Logged E) → List (Logged E)
made_by stamp number log = filter (λ x. (stamp x.entry).seat == number) log

-- a seat's own entries, past the opening list
abbrev pub own : {H E : Type 0} → (E → Stamp) → Standing H E → List E
own stamp s = map entry_of (made_by stamp s.number s.log)

-- the stamp of a seat with its ticket
abbrev pub stamp_of : {H E : Type 0} → Standing H E → Stamp
stamp_of s = record { seat = s.number; ticket = s.ticket % 2 ^ 64 }

-- the whole ticket of a seat in this state, or 0
abbrev pub ticket_in : SeatState → ℕ
ticket_in Idle = 0
ticket_in (Waiting t) = t
ticket_in (Holding t) = t

-- the number of the first of these parts
abbrev pub number_in : {E : Type 0} → List (Part E) → ℕ
number_in [] = 0
number_in (p ∷ ps) = p.number

-- what the first of these parts has seen
abbrev pub log_in : {E : Type 0} → List (Part E) → List (Logged E)
log_in [] = []
log_in (p ∷ ps) = p.log

-- how many turns the first of these parts has ended
abbrev pub turns_in : {E : Type 0} → List (Part E) → ℕ
turns_in [] = 0
turns_in (p ∷ ps) = p.turns

-- where a seat with this view stands
abbrev pub standing_of : {H E : Type 0} → TableId → View H E → Standing H E
standing_of table v = record {
  lock = record { table = table; about = v.about };
  number = number_in v.parts;
  log = log_in v.parts;
  ticket = ticket_in v.state;
  looks = v.looks;
  turns = turns_in v.parts;
}
