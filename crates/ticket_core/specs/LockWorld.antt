-- The ticket lock in whole numbers: its worlds, the step of one seat, and what makes a world lawful. The
-- tickets in the seats' states are whole numbers here, which have no greatest one.
use Rattle.std.specs.Prelude.{◌≡◌, ℕ, ◌+◌, ◌<◌, ◌≤◌, Bool, true, false, List, Option, Some, None, length}
use Rattle.std.specs.Prelude.{count_by, replicate, slice_index_or, slice_set, ◌==◌, nat_lt, if◌then◌else◌}
use Rattle.ticket_core.specs.declared.SeatState.{SeatState}
use Rattle.ticket_core.specs.declared.SeatState.TheVariants.{Idle, Waiting, Holding}
use Rattle.ticket_core.specs.declared.Step.{Step}
use Rattle.ticket_core.specs.declared.Step.TheVariants.{Draw, Look, Enter, Leave}

-- the ticket that is served, the next one to be drawn, and what each seat does
pub record LockWorld : Type 0 where
  pub served : ℕ
  pub next : ℕ
  pub seats : List SeatState

-- a lock just opened: no ticket is drawn, and each seat is idle
abbrev pub opened_world : ℕ → ℕ → LockWorld
opened_world seats first = record { served = first; next = first; seats = replicate seats Idle }

-- what a seat does; one that does not exist is idle
abbrev pub state_of : LockWorld → ℕ → SeatState
state_of w seat = slice_index_or w.seats seat Idle

-- the world after a step of a seat in this state; None where the seat cannot take it
abbrev pub world_from : LockWorld → ℕ → SeatState → Step → Option LockWorld
-- an idle seat draws the next ticket, and waits with it
world_from w seat Idle Draw =
    Some (record w { next = w.next + 1; seats = slice_set w.seats seat (Waiting w.next) })
world_from w seat Idle Look = None
world_from w seat Idle Enter = None
world_from w seat Idle Leave = None
-- a waiting seat looks while an earlier ticket is served, and enters once its own is
world_from w seat (Waiting ticket) Draw = None
world_from w seat (Waiting ticket) Look = if nat_lt w.served ticket then Some w else None
world_from w seat (Waiting ticket) Enter =
    if ticket == w.served then Some (record w { seats = slice_set w.seats seat (Holding ticket) }) else None
world_from w seat (Waiting ticket) Leave = None
-- the holder leaves, and the ticket after the served one is served
world_from w seat (Holding ticket) Draw = None
world_from w seat (Holding ticket) Look = None
world_from w seat (Holding ticket) Enter = None
world_from w seat (Holding ticket) Leave =
    Some (record w { served = w.served + 1; seats = slice_set w.seats seat Idle })

-- the world after a seat's step; None where there is no such seat, or it cannot take the step
abbrev pub world_after : LockWorld → ℕ → Step → Option LockWorld
world_after w seat step =
    if nat_lt seat (length w.seats) then world_from w seat (state_of w seat) step else None

-- the ticket that a seat in this state has in flight
abbrev pub ticket_of : SeatState → Option ℕ
ticket_of Idle = None
ticket_of (Waiting ticket) = Some ticket
ticket_of (Holding ticket) = Some ticket

-- whether a seat in this state has a ticket in flight
abbrev pub has_ticket : SeatState → Bool
has_ticket Idle = false
has_ticket (Waiting ticket) = true
has_ticket (Holding ticket) = true

-- the ticket is in flight, and the seat's
abbrev pub HasTicket : LockWorld → ℕ → ℕ → Type 0
HasTicket w seat ticket = ticket_of (state_of w seat) ≡ Some ticket

-- the seat holds the lock by this ticket
abbrev pub Holds : LockWorld → ℕ → ℕ → Type 0
Holds w seat ticket = state_of w seat ≡ Holding ticket

-- the tickets in flight are those from the served one to below the next, each of one seat, and only the
-- served one holds
pub record IsLawful (w : LockWorld) : Type 0 where
  pub counted : w.next ≡ w.served + count_by has_ticket w.seats
  pub from_served : (seat ticket : ℕ) → HasTicket w seat ticket → w.served ≤ ticket
  pub below_next : (seat ticket : ℕ) → HasTicket w seat ticket → ticket < w.next
  pub served_holds : (seat ticket : ℕ) → Holds w seat ticket → ticket ≡ w.served
  pub apart : (a b ticket : ℕ) → HasTicket w a ticket → HasTicket w b ticket → a ≡ b
  pub complete : (ticket : ℕ) → w.served ≤ ticket → ticket < w.next → (seat : ℕ) × HasTicket w seat ticket
