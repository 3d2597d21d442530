-- What the fields of a flow stand for, and what is true of every book.
use Rattle.std.specs.Prelude.{◌≡◌, ℕ, ◌+◌, ◌-◌, ◌*◌, ◌%◌, Bool, ◌==◌, ◌&&◌, ◌^◌, ◌<◌, ◌≤◌, nat_lt, List, map, Option, None, Some, min, max}
use Rattle.std.specs.Prelude.{if◌then◌else◌}
use Rattle.std.specs.List.{AllByRecursion}
use Rattle.minislots.specs.declared.config.Config.{Config}
use Rattle.minislots.specs.Units.{bytes_in}
use Rattle.sched_calls.specs.declared.spec.FlowSpec.{FlowSpec}
use Rattle.flow_book.specs.declared.flow.Flow.{Flow}
use Rattle.flow_book.specs.declared.flow.Room as the_room
use Rattle.sched_calls.specs.FlowSpec.{rank_of, rate_of, burst_of, peak_of, reserved_of, reserved_burst_of}
use Rattle.sched_calls.specs.declared.spec.TheConstants.{PEAK_BURST}
use Rattle.flow_book.specs.Batches.{with_request}
use Rattle.flow_book.specs.Flows.{LiveFlow, bytes_of, granted, HaveStartedBy}
use Rattle.flow_book.specs.Ceiling.{KeepsCeiling}
use Rattle.flow_book.specs.Choice.{last_start, last_slot}
use Rattle.flow_book.specs.Limits.{ChargesAtGrants, AreLimitsOf, AreSettled}
use Rattle.flow_book.specs.Book.{Room, Ascend}

-- the live flow that the fields stand for
abbrev pub live : Flow → LiveFlow
live f = record {
  sid = f.sid;
  spec = f.spec;
  asked = f.asked;
  batches = f.batches;
  grants = f.grants.items;
  sustained = f.grants.sustained;
  peak = f.grants.peak;
  reserved = f.grants.reserved;
}

-- whether it has neither a peak rate nor a reservation
abbrev pub is_plain : Flow → Bool
is_plain f = f.limits.peak.per_slot == 0 && f.limits.reserved.per_slot == 0

-- it with so many bytes more that it asked, in a request that was heard at this minislot
abbrev pub asked_more : ℕ → ℕ → Flow → Flow
asked_more bytes heard f = record f {
  asked = f.asked + bytes;
  batches = with_request f.batches f.asked (bytes_of f.grants.items) bytes heard;
}

-- it with so many bytes asked in the place of those outstanding, in a request that was heard at this minislot
abbrev pub asked_instead : ℕ → ℕ → Flow → Flow
asked_instead bytes heard f = asked_more bytes heard (record f { asked = bytes_of f.grants.items })

-- its room
abbrev pub room_in : Flow → Room
room_in f = record { sid = f.sid; grants = f.grants.room }

-- the most bytes that the grant cap leaves to a data grant in the minislots before what comes next
abbrev pub IsRoom : Config → the_room.Room → Type 0
IsRoom c room = room.bytes ≡ min (bytes_in c room.slots) c.grant_cap

-- A number by which flows are served: the least first, and no two the same. It stands for the flow's rank, where its
-- last grant starts, and its SID. Flows of higher ranks come before all others, in a rank the start of the last grant
-- decides, none before any, and then the SID.
abbrev pub IsTurn : ℕ → Option ℕ → ℕ → ℕ → Type 0
IsTurn rank None sid turn = (sid < 2 ^ 16) × (turn ≡ (255 - rank) * 2 ^ 65 * 2 ^ 16 + sid)
IsTurn rank (Some start) sid turn = (sid < 2 ^ 16) × (start < 2 ^ 64)
    × (turn ≡ ((255 - rank) * 2 ^ 65 + start + 1) * 2 ^ 16 + sid)

-- the highest rank that a flow may have: where it has a reservation at least that of a polled one
abbrev pub top_rank : FlowSpec → ℕ
top_rank spec = if nat_lt 0 (reserved_of spec) then max 8 (rank_of spec) else rank_of spec

-- the flow knows its turn in its highest rank
abbrev pub KnowsTurn : Flow → Type 0
KnowsTurn f = (rank_of f.spec ≤ 255) × IsTurn (top_rank f.spec) (last_start f.grants.items) f.sid f.turn

-- the turn of a flow that had this one, in this rank
abbrev pub turn_in : ℕ → ℕ → ℕ
turn_in rank turn = (255 - rank) * 2 ^ 81 + turn % 2 ^ 81

-- what a flow keeps beside its grants is theirs: their bytes, its turn after the last one, and the bucket of each of
-- its ceilings and of its reservation that stands for what is charged to that and is settled by it; and none of them
-- starts behind the last one
pub record KeepsSums (c : Config) (f : Flow) : Type 0 where
  pub granted : f.granted ≡ bytes_of f.grants.items
  pub turn : KnowsTurn f
  pub last : HaveStartedBy (last_slot f.grants.items) f.grants.items
  pub charges : ChargesAtGrants (live f)
  pub limits : AreLimitsOf c (live f) f.limits
  pub settled : AreSettled (live f) f.limits

-- g is a copy of f, with what is kept beside its grants
pub record IsCopy (f g : Flow) : Type 0 where
  pub same : live g ≡ live f
  pub granted : g.granted ≡ f.granted
  pub turn : g.turn ≡ f.turn
  pub limits : g.limits ≡ f.limits

-- a flow was granted no more than it asked, within each of its ceilings since that began, and its reserved grants are
-- within its reservation
pub record IsSoundFlow (c : Config) (f : LiveFlow) : Type 0 where
  pub within : granted f ≤ f.asked
  pub kept : KeepsCeiling c (rate_of f.spec) (burst_of f.spec) f.sustained
  pub peak_kept : KeepsCeiling c (peak_of f.spec) PEAK_BURST f.peak
  pub reserved_kept : KeepsCeiling c (reserved_of f.spec) (reserved_burst_of f.spec) f.reserved

-- what is true of the flows of every book
pub record IsSoundBook (c : Config) (flows : List LiveFlow) : Type 0 where
  pub ascending : Ascend flows
  pub each : AllByRecursion (IsSoundFlow c) flows

-- and of what they keep
pub record IsBook (c : Config) (items : List Flow) : Type 0 where
  pub sound : IsSoundBook c (map live items)
  pub sums : AllByRecursion (KeepsSums c) items
