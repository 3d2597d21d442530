-- What a scheduler under the lock is at its close.
use Rattle.std.specs.Prelude.{◌≡◌, ◌<◌, ◌≤◌, ℕ, Bool, true, List, [], ◌++◌, length, map, drop, slice_index, sum, sum_by}
use Rattle.std.specs.Prelude.{◌==◌, ◌+◌, if◌then◌else◌, nat_lt, set}
use Rattle.std.specs.List.{filter, AllByRecursion, Any}
use mathlib.Core.List.{IsPrefix}
use Rattle.minislots.specs.declared.config.Config.{Config}
use Rattle.logbook.specs.Pages.{Book}
use Rattle.sched_calls.specs.declared.frame_map.FrameMap.{FrameMap}
use Rattle.map_build.specs.EachAfter.{EachAfter}
use Rattle.sched_calls.specs.declared.reply.Entry.{Entry}
use Rattle.sched_calls.specs.declared.reply.Reply.TheVariants.{Built}
use Rattle.sched_history.specs.History.{IsNextMap, IsLegal}
use Rattle.sched_history.specs.Facts.{FollowsAlways}
use Rattle.sched_calls.specs.Reply.{IsEncodable}
use Rattle.ticket_core.specs.declared.TheConstants.{MAX_SEATS}
use Rattle.ticket_lock.specs.declared.board.Logged.{Logged}
use Rattle.ticket_lock.specs.Rule.{Every, entry_of}
use Rattle.ticket_lock.specs.Standing.{Lock, Standing, seats_of, turns_of}
use Rattle.ticket_lock.specs.Calls.{Closes}
use Rattle.sched_desk.specs.declared.event.Event.{Event}
use Rattle.sched_desk.specs.Events.{author_of, handed_in}
use Rattle.sched_desk.specs.Portions.{Portion, portions_in, portions_of, entries_in, FollowOn}
use Rattle.sched_desk.specs.Desk.{FixedDesk, fixed_of, events_of, IsInTicketOrder, history_seen, own_entries}
use Rattle.sched_desk.specs.Desk.{own_portions}

-- the entries of the seat with this number
abbrev pub entries_of : ℕ → List Entry → List Entry
entries_of number h = filter (λ e. e.stamp.seat == number) h

-- at each seat's number is the number of its entries
abbrev pub CountsEach : List ℕ → List Entry → Type 0
CountsEach counts h = (number : ℕ) → number < MAX_SEATS → slice_index counts number ≡ length (entries_of number h)

-- the counts with one entry more of the seat with this number, if a lock may have it
abbrev pub counted_by : ℕ → List ℕ → List ℕ
counted_by number counts =
    if nat_lt number MAX_SEATS then set counts number (slice_index counts number + 1) else counts

-- these are the counts of a history, which add up to all its entries where their seats are those that a lock may have
pub record IsCounted (counts : List ℕ) (h : List Entry) : Type 0 where
  pub size : length counts ≡ MAX_SEATS
  pub each : CountsEach counts h
  pub total : AllByRecursion (λ e. e.stamp.seat < MAX_SEATS) h → sum counts ≡ length h

-- each MAP that was built is the lawful one of the next frame after the entries before it
abbrev pub HasLawfulMaps : Config → List Entry → Type 0
HasLawfulMaps c h = EachAfter (λ before e. (m : FrameMap) → e.reply ≡ Built m → IsNextMap c before m) [] h

-- these portions, that the seats handed over, are the front of a history: their entries in the order of their places,
-- and then those that are kept, are all of it
pub record HandsOverAll (seats : List (Standing FixedDesk Event)) (h : List Entry) (handed : ℕ)
    (portions : List Portion) : Type 0 where
  pub places : FollowOn 0 portions
  pub all : entries_in portions ++ drop handed h ≡ h
  -- the portions of each seat are those that it has handed over, and each portion is of one of the seats
  pub own_are : Every (λ s. portions_of s.number portions ≡ own_portions s) seats
  pub no_other : AllByRecursion (λ p. Any (λ s. s.number ≡ p.seat) seats) portions

module _ (c : Config) (lock : Lock FixedDesk Event) (seats : List (Standing FixedDesk Event)) where
  -- the history of a scheduler that was closed with these seats, how many entries at its front were handed over, and
  -- how many of its entries each seat made
  pub record ClosesTo (h : List Entry) (handed : ℕ) (counts : List ℕ) : Type 0 where
    -- it is that of a list that the lock gives at its close, with this press
    pub press : Book
    pub keeps : Bool
    pub log : List (Logged Event)
    pub closes : Closes author_of fixed_of events_of lock seats
        (record { config = c; press = press; keeps = keeps; events = map entry_of log })
    -- it is legal, and so each MAP in it is lawful
    pub legal : IsLegal c h
    pub maps : HasLawfulMaps c h
    -- what is kept of it is no more than the configuration allows
    pub within : length (drop handed h) ≤ c.calls
    -- each MAP in it has bytes, and what follows for the plant holds of every front of it
    pub encodable : AllByRecursion (λ e. IsEncodable e.reply) h
    pub facts : FollowsAlways c h
    -- it begins with what each seat has seen, and is what one of them has seen, in ticket order
    pub begins : Every (λ s. IsPrefix (history_seen s) h) seats
    pub whole : Any (λ s. history_seen s ≡ h) seats
    pub below : ℕ
    pub in_order : IsInTicketOrder (seats_of lock) log below h
    -- as many tickets were served as the seats have ended turns; each call ends one, recorded or not
    pub turns : below ≡ sum_by turns_of seats
    -- each seat's entries in it are its own, and every entry is of one of the seats
    pub own_are : Every (λ s. entries_of s.number h ≡ own_entries s) seats
    pub no_other : AllByRecursion (λ e. Any (λ s. s.number ≡ e.stamp.seat) seats) h
    -- the counts of the seats' entries add up to all entries
    pub counts_are : CountsEach counts h
    pub total : sum counts ≡ length h
    -- so many were handed over, by the seats
    pub handed_is : handed ≡ handed_in (map entry_of log)
    pub front : handed ≤ length h
    pub portions : HandsOverAll seats h handed (portions_in (map entry_of log))
    -- nothing was where the desk keeps its whole history, nor where no seat has handed over anything
    pub keeping : keeps ≡ true → handed ≡ 0
    pub unmarked : Every (λ s. own_portions s ≡ []) seats → handed ≡ 0
