-- The lives of flows in a history: admissions, removals, requests and grants.
use Rattle.std.specs.Prelude.{ℕ, ◌+◌, Bool, true, false, not, ◌&&◌, nat_lt, ◌==◌, List, [], ◌∷◌, ◌++◌}
use Rattle.std.specs.Prelude.{sum_by, filter_map, flat_map, zip, Option, None, Some, option_map, option_and_then}
use Rattle.std.specs.Prelude.{if◌then◌else◌}
use Rattle.std.specs.Option.{option_map_or}
use Rattle.minislots.specs.declared.config.Config.{Config}
use Rattle.map_codec.specs.declared.element.Element.{Element}
use Rattle.sched_calls.specs.Amount.{requested}
use Rattle.sched_calls.specs.declared.spec.FlowSpec.{FlowSpec}
use Rattle.flow_book.specs.declared.flow.Grant.{Grant}
use Rattle.flow_book.specs.declared.batches.Batches.{Batches}
use Rattle.flow_book.specs.Batches.{no_batches, with_request}
use Rattle.flow_book.specs.Flows.{LiveFlow, Charge, charges_of, bytes_of}
use Rattle.flow_book.specs.Book.{has_ceiling_of, has_peak_of, has_reserve_of}
use Rattle.map_build.specs.Plan.{with_grants}
use Rattle.sched_calls.specs.declared.placement.Placement.{Placement}
use Rattle.periodic.specs.Placement.{count_from, Placed}
use Rattle.sched_calls.specs.declared.frame_map.FrameMap.{FrameMap}
use Rattle.sched_calls.specs.declared.call.Call.{Call}
use Rattle.sched_calls.specs.declared.call.Call.TheVariants as calls
use Rattle.sched_calls.specs.declared.reply.Reply.{Reply}
use Rattle.sched_calls.specs.declared.reply.Reply.TheVariants as replies
use Rattle.sched_calls.specs.declared.reply.Entry.{Entry}
use Rattle.sched_history.specs.Latest.{up_to, latest}

-- what an admission or a change gives a flow: its parameters, and its placement where it is periodic
pub record Admission : Type 0 where
  pub spec : FlowSpec
  pub placement : Option Placement

-- whether a life begins or ends
pub data Turn : Type 0 where
  Begins : Admission → Turn
  Ends : Turn

-- the accepted admission or removal of this SID that an entry is
abbrev pub turn_by : ℕ → Call → Reply → Option Turn
turn_by sid (calls.Admit other spec) (replies.Admitted placement) =
    if other == sid then Some (Begins (record { spec = spec; placement = placement })) else None
turn_by sid (calls.Remove other) replies.Removed = if other == sid then Some Ends else None
turn_by sid call reply = None

-- the same of a whole entry
abbrev pub turn_of : ℕ → Entry → Option Turn
turn_of sid e = turn_by sid e.call e.reply

-- a life: how it began, and the entries since
pub record Life : Type 0 where
  pub admission : Admission
  pub since : List Entry

-- the life that a latest turn leaves
abbrev pub life_after : Turn → List Entry → Option Life
life_after (Begins admission) after = Some (record { admission = admission; since = after })
life_after Ends after = None

-- the present life of a SID: the entries after its latest accepted admission, where no accepted removal follows it
abbrev pub life_of : ℕ → List Entry → Option Life
life_of sid h = option_and_then (λ found. life_after found.said found.after) (latest (turn_of sid) h)

-- the bytes of an accepted request of this SID, which are asked beside those before
abbrev pub added_by : Config → ℕ → Call → Reply → ℕ
added_by c sid (calls.Ask receiver other amount heard) replies.Taken = if other == sid then requested c amount else 0
added_by c sid call reply = 0

-- the bytes of these requests
abbrev pub added_in : Config → ℕ → List Entry → ℕ
added_in c sid entries = sum_by (λ e. added_by c sid e.call e.reply) entries

-- the bytes that an accepted request of this SID leaves outstanding in the place of those before
abbrev pub replaced_by : Config → ℕ → Call → Reply → Option ℕ
replaced_by c sid (calls.Replace receiver other amount heard) replies.Taken =
    if other == sid then Some (requested c amount) else None
replaced_by c sid call reply = None

-- the data grant that an element with this byte count is, where it is one to this SID, in a MAP that starts there
abbrev pub grant_by : ℕ → ℕ → Element × ℕ → Option Grant
grant_by sid start e =
    if e.0.sid == sid && nat_lt 0 e.1 then Some (record { start = start + e.0.offset; bytes = e.1 }) else None

-- the data grants of a MAP to this SID, in order
abbrev pub grants_of_map : ℕ → FrameMap → List Grant
grants_of_map sid m = filter_map (grant_by sid m.start) (zip m.wire.elements m.bytes)

-- the data grants to this SID that a reply has
abbrev pub grants_by : ℕ → Reply → List Grant
grants_by sid (replies.Built m) = grants_of_map sid m
grants_by sid reply = []

-- the data grants to this SID in these entries, in order
abbrev pub grants_since : ℕ → List Entry → List Grant
grants_since sid entries = flat_map (λ e. grants_by sid e.reply) entries

-- the bytes asked under this SID in these entries: those of its requests, and since the latest that left its bytes in
-- the place of those before, what was granted up to it, these bytes, and those of the requests after it
abbrev pub asked_in : Config → ℕ → List Entry → ℕ
asked_in c sid entries = option_map_or
    (λ found. bytes_of (grants_since sid (up_to entries found.after)) + found.said + added_in c sid found.after)
    (latest (λ e. replaced_by c sid e.call e.reply) entries)
    (added_in c sid entries)

-- the batches of the requests of this SID after an entry, of a flow that had asked and was granted so many bytes: a MAP
-- leaves them, since which of them are over is read in what is granted
abbrev pub batches_by : Config → ℕ → Call → Reply → Batches → ℕ → ℕ → Batches
batches_by c sid (calls.Ask receiver other amount heard) replies.Taken b asked granted =
    if other == sid then with_request b asked granted (requested c amount) heard else b
batches_by c sid (calls.Replace receiver other amount heard) replies.Taken b asked granted =
    if other == sid then with_request b granted granted (requested c amount) heard else b
batches_by c sid call reply b asked granted = b

-- the batches after more entries of a life, which follow these
abbrev pub batches_after : Config → ℕ → Batches → List Entry → List Entry → Batches
batches_after c sid b before [] = b
batches_after c sid b before (e ∷ entries) = batches_after c sid
    (batches_by c sid e.call e.reply b (asked_in c sid before) (bytes_of (grants_since sid before)))
    (before ++ e ∷ []) entries

-- the batches of the requests of this SID in these entries
abbrev pub batches_in : Config → ℕ → List Entry → Batches
batches_in c sid entries = batches_after c sid no_batches [] entries

-- what an accepted change of this SID gives
abbrev pub change_by : ℕ → Call → Reply → Option Admission
change_by sid (calls.Change other spec) (replies.Changed placement) =
    if other == sid then Some (record { spec = spec; placement = placement }) else None
change_by sid call reply = None

-- what a flow that was given this first has after these entries of its life: what the latest change gave it
abbrev pub given_after : ℕ → Admission → List Entry → Admission
given_after sid first entries =
    option_map_or (λ found. found.said) (latest (λ e. change_by sid e.call e.reply) entries) first

-- a change gives a flow of these parameters another ceiling: that of its rate and burst, that of its peak rate, or its
-- reservation, as this tells whether two flows have the same
abbrev pub changes_ceiling : (FlowSpec → FlowSpec → Bool) → ℕ → FlowSpec → Entry → Bool
changes_ceiling same sid spec e = option_map_or (λ a. not (same spec a.spec)) (change_by sid e.call e.reply) false

-- the entries of a life after the latest change that gave it another ceiling, all where there was none: these follow
-- those before, by which the flow has these parameters
abbrev pub period_after : (FlowSpec → FlowSpec → Bool) → ℕ → Admission → List Entry → List Entry → List Entry
period_after same sid given period [] = period
period_after same sid given period (e ∷ entries) =
    if changes_ceiling same sid given.spec e then period_after same sid (given_after sid given (e ∷ [])) [] entries
    else period_after same sid (given_after sid given (e ∷ [])) (period ++ e ∷ []) entries

-- the entries of a life in the present period of its ceiling
abbrev pub period_of : (FlowSpec → FlowSpec → Bool) → ℕ → Life → List Entry
period_of same sid life = period_after same sid life.admission [] life.since

-- what the data grants of a life charge to a ceiling: those of its present period
abbrev pub charged_in : (FlowSpec → FlowSpec → Bool) → ℕ → Life → List Charge
charged_in same sid life = charges_of (grants_since sid (period_of same sid life))

-- a flow of these parameters with these entries since its life began, and with this charged to its reservation
abbrev pub reserving : Config → ℕ → FlowSpec → List Entry → List Charge → LiveFlow
reserving c sid spec before charged =
    record {
      sid = sid;
      spec = spec;
      asked = asked_in c sid before;
      batches = no_batches;
      grants = grants_since sid before;
      sustained = [];
      peak = [];
      reserved = charged;
    }

-- what is charged to the reservation of such a flow after an entry: its data grants of a MAP too where it is under its
-- reservation at their starts, and nothing where a change gives it another reservation
abbrev pub reservation_by : Config → ℕ → FlowSpec → List Entry → List Charge → Entry → List Charge
reservation_by c sid spec before charged e = if changes_ceiling has_reserve_of sid spec e then []
    else (with_grants c (grants_by sid e.reply) (reserving c sid spec before charged)).reserved

-- the same after more entries of a life, which follow those before, by which the flow has these parameters
abbrev pub reservation_after : Config → ℕ → Admission → List Charge → List Entry → List Entry → List Charge
reservation_after c sid given charged before [] = charged
reservation_after c sid given charged before (e ∷ entries) =
    reservation_after c sid (given_after sid given (e ∷ []))
    (reservation_by c sid given.spec before charged e) (before ++ e ∷ []) entries

-- what is charged to the reservation of a life: its reserved grants of the present period
abbrev pub reservation_of : Config → ℕ → Life → List Charge
reservation_of c sid life = reservation_after c sid life.admission [] [] life.since

-- whether an unsolicited flow rests from an entry on: while nothing says so it does not
abbrev pub rest_by : ℕ → Call → Reply → Option Bool
rest_by sid (calls.Rest other) replies.Noted = if other == sid then Some true else None
rest_by sid (calls.Wake other) replies.Noted = if other == sid then Some false else None
rest_by sid (calls.Change other spec) (replies.Changed placement) = if other == sid then Some false else None
rest_by sid call reply = None

-- whether it rests after these entries of its life
abbrev pub rests_in : ℕ → List Entry → Bool
rests_in sid entries = option_map_or (λ found. found.said) (latest (λ e. rest_by sid e.call e.reply) entries) false

-- what the flow of a life has: its parameters, and its placement where it is periodic
abbrev pub given_in : ℕ → Life → Admission
given_in sid life = given_after sid life.admission life.since

-- the live flow that a life is
abbrev pub flow_in_life : Config → ℕ → Life → LiveFlow
flow_in_life c sid life =
    record {
      sid = sid;
      spec = (given_in sid life).spec;
      asked = asked_in c sid life.since;
      batches = batches_in c sid life.since;
      grants = grants_since sid life.since;
      sustained = charged_in has_ceiling_of sid life;
      peak = charged_in has_peak_of sid life;
      reserved = reservation_of c sid life;
    }

-- the placed flow that a life is
abbrev pub placed_in_life : ℕ → Life → Option Placed
placed_in_life sid life = option_map (λ p. record {
  sid = sid;
  spec = (given_in sid life).spec;
  placement = p;
  rests = rests_in sid life.since;
}) (given_in sid life).placement

-- the greatest SID of a flow
abbrev pub last_sid : ℕ
last_sid = 8191

-- the SIDs of flows, ascending
unfoldable pub sids : List ℕ
sids = count_from 1 last_sid

-- the live flows after a history, in order of SID
abbrev pub flows_of : Config → List Entry → List LiveFlow
flows_of c h = filter_map (λ sid. option_map (flow_in_life c sid) (life_of sid h)) sids

-- the live placements after a history, in order of SID
abbrev pub table_of : List Entry → List Placed
table_of h = filter_map (λ sid. option_and_then (placed_in_life sid) (life_of sid h)) sids
