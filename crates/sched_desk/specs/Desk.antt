-- The scheduler with its press, or with none, as a journal, the lock round it, and what a seat of that lock has seen.
use Rattle.std.specs.Prelude.{◌≡◌, ◌≤◌, ℕ, Bool, true, List, [], length, map, Some}
use Rattle.minislots.specs.declared.config.Config.{Config}
use Rattle.logbook.specs.Pages.{Book}
use Rattle.map_codec.specs.WireMap.{spelling}
use Rattle.map_snapshot.specs.Maps.{Printing}
use Rattle.sched_calls.specs.declared.reply.Entry.{Entry}
use Rattle.sched_history.specs.Facts.{maps_of}
use Rattle.sched_history.specs.History.{IsLegal}
use Rattle.sched_history.specs.Machine.{Machine}
use Rattle.ticket_core.specs.declared.TheConstants.{MAX_SEATS}
use Rattle.ticket_lock.specs.declared.board.Logged.{Logged}
use Rattle.ticket_lock.specs.Rule.{entry_of, IsOrdered}
use Rattle.ticket_lock.specs.Standing.{Lock, Standing, head_of, opening_of, seats_of, first_of, seen, own}
use Rattle.sched_desk.specs.declared.event.Event.{Event}
use Rattle.sched_desk.specs.Events.{author_of, history_in, handed_in, machine_in}
use Rattle.sched_desk.specs.Portions.{Portion, portions_in, portions_of}

-- what does not change of a desk: its configuration, which press it has, and whether it keeps its whole history
pub record FixedDesk : Type 0 where
  pub config : Config
  pub press : Book
  pub keeps : Bool

-- a desk: what does not change of it, and what its turns have added to the list of its lock
pub record DeskState : Type 0 where
  pub config : Config
  pub press : Book
  pub keeps : Bool
  pub events : List Event

-- what does not change of it
abbrev pub fixed_of : DeskState → FixedDesk
fixed_of d = record { config = d.config; press = d.press; keeps = d.keeps }

-- the list of a desk: what its turns have added
abbrev pub events_of : DeskState → List Event
events_of d = d.events

-- the history of a desk
abbrev pub history_of : DeskState → List Entry
history_of d = history_in d.events

-- the scheduler of a desk
abbrev pub machine_of : DeskState → Machine
machine_of d = machine_in d.config d.events

-- what is published of a history: the encodings of its MAPs, in their order
abbrev pub published : List Entry → List (List ℕ)
published h = map (λ m. spelling m.wire) (maps_of h)

-- a scheduler, and which press is with it
pub record Recording : Type 0 where
  pub machine : Machine
  pub press : Book

-- the press shows what is published of the scheduler's history and nothing more, and this is how many MAPs that are
pub record ShowsHistory (m : Machine) (p : Printing) (maps : ℕ) : Type 0 where
  pub shown : p.list ≡ published m.history
  pub settled : p.waiting ≡ []
  pub count : maps ≡ length (published m.history)

-- a desk of this configuration, with this press, that has recorded no call
abbrev pub empty_desk : Config → Book → Bool → DeskState
empty_desk c press keeps = record { config = c; press = press; keeps = keeps; events = [] }

-- what a desk without a press has in its place
abbrev pub no_press : Book
no_press = record { number = 0; log_name = 0; cells_name = 0 }

-- a scheduler that publishes to nobody
abbrev pub alone : Machine → Recording
alone m = record { machine = m; press = no_press }

-- what a desk notes of its turns: whether it keeps its whole history, and what they have added to the list
pub record Docketed : Type 0 where
  pub keeps : Bool
  pub events : List Event

-- the desk with this scheduler and these notes
abbrev pub desk_of : Recording → Docketed → DeskState
desk_of r noted = record {
  config = r.machine.config;
  press = r.press;
  keeps = noted.keeps;
  events = noted.events;
}

-- the scheduler has the history of these events, and has handed over as much, which is nothing at a desk that keeps its
-- whole history
pub record Agrees (r : Recording) (noted : Docketed) : Type 0 where
  pub machine_is : r.machine ≡ machine_in r.machine.config noted.events
  pub whole : noted.keeps ≡ true → handed_in noted.events ≡ 0

-- a scheduler under a lock, as contracts see it: what does not change of its desk, and the lock round that
pub record SharedDesk : Type 0 where
  pub config : Config
  pub press : Book
  pub keeps : Bool
  pub lock : Lock FixedDesk Event

-- the lock was opened round a desk of this configuration, with an empty history, 1 to 64 seats and the first ticket 0
pub record IsDeskLock (c : Config) (l : Lock FixedDesk Event) : Type 0 where
  pub press : Book
  pub keeps : Bool
  pub head_is : head_of l ≡ Some (record { config = c; press = press; keeps = keeps })
  pub opening_is : opening_of l ≡ []
  pub first_is : first_of l ≡ 0
  pub some : 1 ≤ seats_of l
  pub few : seats_of l ≤ MAX_SEATS

-- the desk in it has this press, and keeps its whole history or not
abbrev pub HasPress : Config → Book → Bool → Lock FixedDesk Event → Type 0
HasPress c press keeps l = head_of l ≡ Some (record { config = c; press = press; keeps = keeps })

-- the desk in it has this press
abbrev pub IsHeadOf : Config → Book → Lock FixedDesk Event → Type 0
IsHeadOf c press l = (keeps : Bool) × HasPress c press keeps l

-- the history that a seat has seen
abbrev pub history_seen : Standing FixedDesk Event → List Entry
history_seen s = history_in (seen s)

-- the scheduler that a seat has seen
abbrev pub machine_seen : Config → Standing FixedDesk Event → Machine
machine_seen c s = machine_in c (seen s)

-- a seat's own entries
abbrev pub own_entries : Standing FixedDesk Event → List Entry
own_entries s = history_in (own author_of s)

-- what a seat has handed over
abbrev pub own_portions : Standing FixedDesk Event → List Portion
own_portions s = portions_of s.number (portions_in (seen s))

-- the history has the entries of this log in its order, each with its whole ticket; the tickets ascend strictly
-- from 0 to below this one, the stamps have them modulo 2^64, and the seats are below this number
abbrev pub IsInTicketOrder : ℕ → List (Logged Event) → ℕ → List Entry → Type 0
IsInTicketOrder seats log below h = (h ≡ history_in (map entry_of log)) × IsOrdered author_of 0 seats log below

-- what a seat has seen is a legal history in ticket order, below this ticket
pub record SeesLegal (c : Config) (s : Standing FixedDesk Event) (below : ℕ) : Type 0 where
  pub in_order : IsInTicketOrder (seats_of s.lock) s.log below (history_seen s)
  pub legal : IsLegal c (history_seen s)
