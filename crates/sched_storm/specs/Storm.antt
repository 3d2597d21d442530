-- What a storm is, as its tally tells it.
use Rattle.std.specs.Prelude.{◌≡◌, ◌<◌, ◌≤◌, ◌↔◌, ℕ, true, List, [], ◌∷◌, length, map, sum_by, nat_lt}
use Rattle.std.specs.Prelude.{if◌then◌else◌, Option, Some, None}
use Rattle.std.specs.List.{range_with_len}
use mathlib.Core.List.{IsPrefix}
use Rattle.minislots.specs.declared.config.Config.{Config}
use Rattle.sched_calls.specs.declared.call.Call.{Call}
use Rattle.sched_calls.specs.declared.reply.Entry.{Entry}
use Rattle.sched_history.specs.Facts.{maps_of}
use Rattle.sched_history.specs.History.{IsLegal}
use Rattle.ticket_lock.specs.Rule.{Every}
use Rattle.ticket_lock.specs.Standing.{Lock, Standing, seats_of}
use Rattle.sched_desk.specs.declared.event.Event.{Event}
use Rattle.sched_desk.specs.Desk.{FixedDesk}
use Rattle.sched_desk.specs.Closed.{entries_of, ClosesTo}
use Rattle.sched_storm.specs.declared.gather.Gathered.{Gathered}
use Rattle.sched_storm.specs.declared.tally.Tally.{Tally}
use Rattle.sched_storm.specs.Made.{MadeCall, calls_made, calls_recorded, calls_in, left_out_count, Leads}

-- what a worker did: its seat, as it came back, its script, and the calls that it made of it
pub record Deed : Type 0 where
  pub seat : Standing FixedDesk Event
  pub script : List Call
  pub made : List MadeCall

-- a worker did so, in a storm with this history
pub record HasMade (c : Config) (h : List Entry) (d : Deed) : Type 0 where
  -- its calls are a front of its script
  pub front : IsPrefix (calls_made d.made) d.script
  -- they are all its calls: its seat ended as many turns
  pub turns : length d.made ≡ d.seat.turns
  -- its seat's entries are those that were recorded, in order
  pub entries : calls_in (entries_of d.seat.number h) ≡ calls_recorded d.made
  -- its seat made them one after the other, from the empty list to this history, and each that was not recorded may
  -- be left out
  pub leads : Leads c d.seat.number [] d.made h

-- the first that made fewer calls than its script has
abbrev pub held_of : List Deed → Option ℕ
held_of [] = None
held_of (d ∷ ds) = if nat_lt (length d.made) (length d.script) then Some d.seat.number else held_of ds

-- what is read after so many MAPs were published and told: a version that is not below their number, or none, where
-- there are none
abbrev pub HasRead : ℕ → Option ℕ → Type 0
HasRead maps None = maps ≡ 0
HasRead maps (Some version) = maps ≤ version

-- a tally of a storm with these scripts, a worker for each
pub record IsTally (c : Config) (scripts : List (List Call)) (t : Tally) : Type 0 where
  -- its history is that of a scheduler that was closed with a seat for each worker, and its counts are those of the
  -- seats
  pub lock : Lock FixedDesk Event
  pub deeds : List Deed
  pub scripts_are : map (λ d. d.script) deeds ≡ scripts
  pub numbers_are : map (λ d. d.seat.number) deeds ≡ range_with_len 0 (length scripts)
  pub own : Every (λ d. d.seat.lock ≡ lock) deeds
  pub count_is : seats_of lock ≡ length scripts
  pub closed : ClosesTo c lock (map (λ d. d.seat) deeds) t.history.items 0 t.counts
  -- each worker made calls of its script, in order, and the entries of its seat are those that were recorded
  pub each : Every (HasMade c t.history.items) deeds
  -- the numbers are those of these calls and of this history, and the verdict is that of this history
  pub unrecorded_is : t.unrecorded ≡ sum_by (λ d. left_out_count d.made) deeds
  pub maps_is : t.maps ≡ length (maps_of t.history.items)
  pub newest_is : HasRead t.maps t.newest
  pub legal_is : (t.legal ≡ true) ↔ IsLegal c t.history.items
  pub held_is : t.held ≡ held_of deeds

-- the gate let a worker pass before each call that it made, and not before the next one of its script, if there is one
pub record KeepsGate (passes holds : ℕ → ℕ → Type 0) (d : Deed) : Type 0 where
  pub passed : (place : ℕ) → place < length d.made → passes d.seat.number place
  pub held : length d.made < length d.script → holds d.seat.number (length d.made)

-- a tally of a storm under a gate of which this is so where it lets a worker pass to the call at a place, and this
-- where it does not
pub record IsGatedTally (passes holds : ℕ → ℕ → Type 0) (c : Config) (scripts : List (List Call)) (t : Tally) : Type 0
  where
    pub tally : IsTally c scripts t
    pub gated : Every (KeepsGate passes holds) tally.deeds

-- what the workers gave back and the history at the close, as a tally
pub record Tells (c : Config) (lock : Lock FixedDesk Event) (g : Gathered) (t : Tally) : Type 0 where
  pub closed : ClosesTo c lock g.seats.items t.history.items 0 t.counts
  pub unrecorded_is : t.unrecorded ≡ g.unrecorded
  pub maps_is : t.maps ≡ length (maps_of t.history.items)
  pub newest_is : HasRead t.maps t.newest
  pub legal_is : (t.legal ≡ true) ↔ IsLegal c t.history.items
  pub held_is : t.held ≡ g.held
