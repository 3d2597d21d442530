-- What is said of a life: its requests that wait, were dropped or were replaced, and what it was granted.
use Rattle.std.specs.Prelude.{ℕ, ◌+◌, ◌-◌, ◌==◌, ◌&&◌, Bool, true, List, [], ◌∷◌, ◌++◌, take, drop, sum_by}
use Rattle.flow_book.specs.declared.flow.Grant.{Grant}
use Rattle.std.specs.Prelude.{Option, None, Some, if◌then◌else◌}
use Rattle.minislots.specs.declared.config.Config.{Config}
use Rattle.map_drawing.specs.declared.allocation.Allocation.{Allocation}
use Rattle.map_drawing.specs.Allocation.{allocations_of}
use Rattle.sched_calls.specs.declared.spec.FlowSpec.{FlowSpec}
use Rattle.sched_calls.specs.declared.spec.FlowSpec.TheVariants as flows
use Rattle.flow_book.specs.Flows.{bytes_of}
use Rattle.sched_calls.specs.declared.frame_map.FrameMap.{FrameMap}
use Rattle.sched_calls.specs.declared.reply.Reply.{Reply}
use Rattle.sched_calls.specs.declared.reply.Reply.TheVariants as replies
use Rattle.sched_calls.specs.declared.reply.Entry.{Entry}
use Rattle.map_build.specs.declared.met.Met.{Met}
use Rattle.map_build.specs.Reading.{meets_at}
use Rattle.sched_history.specs.Life.{asked_in, grants_since}
use Rattle.sched_history.specs.Reserves.{met_after}
use Rattle.sched_report.specs.Delays.{Claim, delays_of, replaced_of, unserved_of}
use Rattle.sched_report.specs.Lives.{PastLife, spec_after, spec_of}
use Rattle.sched_report.specs.Requests.{claims_in}
use Rattle.sched_report.specs.Uses.{use_of, is_unsolicited}

-- the requests of a life
abbrev pub claims_of : Config → PastLife → List Claim
claims_of c life = claims_in c life.sid life.passed life.since

-- the delays of those that were served
abbrev pub delays_in : Config → PastLife → List ℕ
delays_in c life = delays_of c (claims_of c life)

-- how many of them were replaced
abbrev pub replaced_in : Config → PastLife → ℕ
replaced_in c life = replaced_of c (claims_of c life)

-- how many no data grant served, and no request superseded
abbrev pub unserved_in : Config → PastLife → ℕ
unserved_in c life = unserved_of c (claims_of c life)

-- they wait while it lives
abbrev pub waiting_in : Config → PastLife → ℕ
waiting_in c life = if life.ended then 0 else unserved_in c life

-- and were dropped where it ended
abbrev pub dropped_in : Config → PastLife → ℕ
dropped_in c life = if life.ended then unserved_in c life else 0

-- the bytes that its data grants had before what is told
abbrev pub granted_before : PastLife → ℕ
granted_before life = bytes_of (grants_since life.sid (take life.passed life.since))

-- the bytes that were outstanding then
abbrev pub carried_in : Config → PastLife → ℕ
carried_in c life = asked_in c life.sid (take life.passed life.since) - granted_before life

-- the data grants since
abbrev pub grants_in : PastLife → List Grant
grants_in life = grants_since life.sid (drop life.passed life.since)

-- the bytes that were outstanding then and those asked since, but for those, of both, that a request superseded
abbrev pub asked_since : Config → PastLife → ℕ
asked_since c life = asked_in c life.sid life.since - granted_before life

-- the bytes that were asked and not granted
abbrev pub outstanding_in : Config → PastLife → ℕ
outstanding_in c life = asked_in c life.sid life.since - bytes_of (grants_since life.sid life.since)

-- whether an allocation is an unsolicited grant to the unsolicited flow that lives under this SID, where these are the
-- opportunities that its MAP meets: none of those is
abbrev pub is_grant_to : List Met → ℕ → Allocation → Bool
is_grant_to met sid a = a.sid == sid && is_unsolicited (use_of a (meets_at met a.offset) true)

-- the bytes of an allocation, where it is an unsolicited grant to a flow with these parameters, which lives under this
-- SID: as many as it has now
abbrev pub unsolicited_at : List Met → FlowSpec → ℕ → Allocation → ℕ
unsolicited_at met (flows.Unsolicited size interval jitter grants) sid a = if is_grant_to met sid a then size else 0
unsolicited_at met (flows.Polled interval jitter rate burst peak) sid a = 0
unsolicited_at met (flows.BestEffort priority rate burst peak reserved reserved-burst) sid a = 0

-- the bytes of the unsolicited grants that a MAP has to it, which meets these
abbrev pub unsolicited_of_map : List Met → FlowSpec → ℕ → FrameMap → ℕ
unsolicited_of_map met spec sid m = sum_by (unsolicited_at met spec sid) (allocations_of m.wire.elements)

-- and a reply
abbrev pub unsolicited_by : List Met → FlowSpec → ℕ → Reply → ℕ
unsolicited_by met spec sid (replies.Built m) = unsolicited_of_map met spec sid m
unsolicited_by met spec sid reply = 0

-- and entries that follow some of a life, which follow its admission: each with the parameters that the flow has there,
-- and with what its MAP meets there
abbrev pub unsolicited_after : Config → ℕ → FlowSpec → List Entry → List Entry → List Entry → ℕ
unsolicited_after c sid first upto before [] = 0
unsolicited_after c sid first upto before (e ∷ es) =
    unsolicited_by (met_after c (upto ++ before) e.reply) (spec_after sid first before) sid e.reply
    + unsolicited_after c sid first upto (before ++ e ∷ []) es

-- the bytes of the unsolicited grants of a life
abbrev pub unsolicited_in : Config → PastLife → ℕ
unsolicited_in c life =
    unsolicited_after c life.sid life.first life.upto (take life.passed life.since) (drop life.passed life.since)

-- the bytes of the unsolicited grants of a flow, or else of its data grants
abbrev pub granted_under : FlowSpec → ℕ → ℕ → ℕ
granted_under (flows.Unsolicited size interval jitter grants) unsolicited bytes = unsolicited
granted_under (flows.Polled interval jitter rate burst peak) unsolicited bytes = bytes
granted_under (flows.BestEffort priority rate burst peak reserved reserved-burst) unsolicited bytes = bytes

-- the bytes that a life was granted
abbrev pub granted_in : Config → PastLife → ℕ
granted_in c life = granted_under (spec_of life) (unsolicited_in c life) (bytes_of (grants_in life))

-- the priority of a best effort flow
abbrev pub priority_of : FlowSpec → Option ℕ
priority_of (flows.Unsolicited size interval jitter grants) = None
priority_of (flows.Polled interval jitter rate burst peak) = None
priority_of (flows.BestEffort priority rate burst peak reserved reserved-burst) = Some priority
