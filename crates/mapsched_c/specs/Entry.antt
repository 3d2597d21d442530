-- An entry of a history in plain numbers, and what an export answers of the entries.
use Rattle.std.specs.Prelude.{ℕ, length, Option, None, Some, nat_lt, if◌then◌else◌}
use Rattle.std.specs.List.{slice_get}
use Rattle.minislots.specs.declared.stamp.Stamp.{Stamp}
use Rattle.sched_calls.specs.declared.reply.Entry.{Entry}
use Rattle.sched_history.specs.Machine.{Machine}
use Rattle.mapsched_c.specs.declared.entry.PlainStamp.{PlainStamp}
use Rattle.mapsched_c.specs.declared.entry.PlainEntry.{PlainEntry}
use Rattle.mapsched_c.specs.declared.status.TheConstants.{OK, EMPTY, NO_ENTRY, HANDED_OVER}
use Rattle.mapsched_c.specs.Call.{plain_call}
use Rattle.mapsched_c.specs.Reply.{plain_reply}

-- the stamp of these numbers
abbrev pub stamp_of : PlainStamp → Stamp
stamp_of s = record { seat = s.seat; ticket = s.ticket }

-- an entry, over what stood there
abbrev pub plain_entry : PlainEntry → Entry → PlainEntry
plain_entry old e = record {
  stamp = record { ticket = e.stamp.ticket; seat = e.stamp.seat };
  call = plain_call e.call;
  reply = plain_reply old.reply e.reply;
}

-- the entry where there is one, over what stood there; else that
abbrev pub entry_over : PlainEntry → Option Entry → PlainEntry
entry_over old None = old
entry_over old (Some e) = plain_entry old e

-- the status of an entry that is there or not
abbrev pub status_of_entry : Option Entry → ℕ
status_of_entry None = NO_ENTRY
status_of_entry (Some e) = OK

-- the entry at this place of the whole history, where it is kept
abbrev pub entry_at : Option Machine → ℕ → Option Entry
entry_at None i = None
entry_at (Some m) i = if nat_lt i m.handed then None else slice_get m.history i

-- what is answered of the entry at this place
abbrev pub entry_status : Option Machine → ℕ → ℕ
entry_status None i = EMPTY
entry_status (Some m) i = if nat_lt i m.handed then HANDED_OVER else status_of_entry (slice_get m.history i)

-- the status of a handle: that it has a scheduler, or none
abbrev pub handle_status : Option Machine → ℕ
handle_status None = EMPTY
handle_status (Some m) = OK

-- how many entries are recorded, where there is a scheduler; else what stood there
abbrev pub count_over : ℕ → Option Machine → ℕ
count_over old None = old
count_over old (Some m) = length m.history

-- how many were handed over, where there is a scheduler; else what stood there
abbrev pub handed_over : ℕ → Option Machine → ℕ
handed_over old None = old
handed_over old (Some m) = m.handed

-- a scheduler that has let go of all entries that it kept, where there is one
abbrev pub all_forgotten : Option Machine → Option Machine
all_forgotten None = None
all_forgotten (Some m) = Some (record m { handed = length m.history })
