-- What turns at a desk add to the list of its lock, and the history of which this is the list.
use Rattle.std.specs.Prelude.{◌≡◌, ℕ, ◌+◌, List, [], ◌∷◌, ◌++◌, map, length}
use Rattle.minislots.specs.declared.config.Config.{Config}
use Rattle.minislots.specs.declared.stamp.Stamp.{Stamp}
use Rattle.sched_calls.specs.declared.reply.Entry.{Entry}
use Rattle.sched_history.specs.Machine.{Machine}
use Rattle.sched_desk.specs.declared.event.Event.{Event}
use Rattle.sched_desk.specs.declared.event.Event.TheVariants.{Recorded, Marked}

-- who made an entry
abbrev pub maker_of : Entry → Stamp
maker_of e = e.stamp

-- who added an event
abbrev pub author_of : Event → Stamp
author_of (Recorded e) = e.stamp
author_of (Marked stamp) = stamp

-- the whole history: the entries that were recorded, without the marks
abbrev pub history_in : List Event → List Entry
history_in [] = []
history_in (Recorded e ∷ more) = e ∷ history_in more
history_in (Marked stamp ∷ more) = history_in more

-- a history in two parts: what was handed over, and what is kept
pub record Parted : Type 0 where
  pub handed : List Entry
  pub kept : List Entry

-- that of no entry
abbrev pub nothing_yet : Parted
nothing_yet = record { handed = []; kept = [] }

-- one entry more is kept
abbrev pub with_entry : Parted → Entry → Parted
with_entry p e = record p { kept = p.kept ++ e ∷ [] }

-- all that is kept was handed over
abbrev pub all_handed : Parted → Parted
all_handed p = record { handed = p.handed ++ p.kept; kept = [] }

-- the parts after these events, in their order: an entry is kept, and a mark stands behind all that was handed over
abbrev pub parted_after : Parted → List Event → Parted
parted_after p [] = p
parted_after p (Recorded e ∷ more) = parted_after (with_entry p e) more
parted_after p (Marked stamp ∷ more) = parted_after (all_handed p) more

-- how many entries were handed over: those before the last mark
abbrev pub handed_in : List Event → ℕ
handed_in events = length (parted_after nothing_yet events).handed

-- the entries that are kept: those behind the last mark
abbrev pub kept_in : List Event → List Entry
kept_in events = (parted_after nothing_yet events).kept

-- the events that are kept
abbrev pub kept_events : List Event → List Event
kept_events events = map Recorded (kept_in events)

-- the scheduler of this configuration whose events these are
abbrev pub machine_in : Config → List Event → Machine
machine_in c events = record { config = c; history = history_in events; handed = handed_in events }
