-- How a frame is filled behind its request region: polls and unsolicited grants at their places, and in between
-- opportunities that were reserved, data grants to the flow that is next, or an idle.
use Rattle.std.specs.Prelude.{◌≡◌, ℕ, ◌+◌, ◌-◌, ◌<◌, ◌≤◌, min, nat_le, ◌⊎◌, Bool, true, false}
use Rattle.std.specs.Prelude.{List, [], ◌∷◌, map, length, sum_by, count_by, filter_map, Contains}
use Rattle.std.specs.Prelude.{Option, None, Some, if◌then◌else◌}
use Rattle.std.specs.List.{AllByRecursion, slice_get}
use Rattle.minislots.specs.declared.config.Config.{Config}
use Rattle.minislots.specs.Units.{slots_for}
use Rattle.flow_book.specs.declared.flow.Grant.{Grant}
use Rattle.flow_book.specs.Flows.{LiveFlow}
use Rattle.flow_book.specs.Reserved.{with_grant}
use Rattle.flow_book.specs.Choice.{NoneEligible, IsNext, IsAmount}
use Rattle.periodic.specs.declared.placement.Spot.{Spot}
use Rattle.map_build.specs.declared.TheConstants.{MAX_DATA_GRANTS, MAX_GRANTS_AND_PENDING}
use Rattle.sched_calls.specs.declared.opportunity.Opportunity.{Opportunity}
use Rattle.map_build.specs.declared.purpose.Allocation.{Allocation}
use Rattle.map_build.specs.declared.purpose.Purpose.{Purpose}
use Rattle.map_build.specs.declared.purpose.Purpose.TheVariants.{Poll, UnsolicitedGrant, Offer, DataGrant, Idle}
use Rattle.map_build.specs.EachAfter.{EachAfter}
use Rattle.map_build.specs.Purpose.{Class, Placed, Reserved, Requested, Left, class_of, classes_before}
use Rattle.map_build.specs.Purpose.{is_data_grant, place_of, grant_to, allocation_of}

-- What a frame has to serve: the minislot at which it starts, the live flows before it, what polls and unsolicited
-- grants take of it, the opportunities that wait for its MAP, in their order, and whether nobody sends in the frame,
-- since a new UCD settles
pub record Demand : Type 0 where
  pub start : ℕ
  pub flows : List LiveFlow
  pub spots : List Spot
  pub waiting : List Opportunity
  pub settles : Bool

-- what a frame in which modems may send has to serve
abbrev pub demand_at : List LiveFlow → List Spot → List Opportunity → ℕ → Demand
demand_at flows spots waiting start =
    record { start = start; flows = flows; spots = spots; waiting = waiting; settles = false }

-- the same of a frame in which nobody sends
abbrev pub settling : Demand → Demand
settling d = record d { settles = true }

-- the most data grants of its MAP, beside the pending grants that it may have: each opportunity that waits takes the
-- place of one
abbrev pub most_grants : Config → List Opportunity → ℕ
most_grants c waiting = min MAX_DATA_GRANTS (MAX_GRANTS_AND_PENDING - c.pending) - length waiting

-- how many data grants there are
abbrev pub grants_in : List Allocation → ℕ
grants_in plan = count_by (λ a. is_data_grant a.purpose) plan

-- where allocations that fill the frame behind the request region end
abbrev pub end_of : Config → List Allocation → ℕ
end_of c plan = c.req_slots + sum_by (λ a. a.slots) plan

-- the data grants to this flow, in order
abbrev pub grants_to : ℕ → ℕ → List Allocation → List Grant
grants_to start sid plan = filter_map (λ a. grant_to start sid a.purpose a.offset) plan

-- a flow with these grants more, one after the other: whether one is a reserved grant depends on those before it
abbrev pub with_grants : Config → List Grant → LiveFlow → LiveFlow
with_grants c [] f = f
with_grants c (g ∷ grants) f = with_grants c grants (with_grant c g f)

-- the flow after these allocations of the frame
abbrev pub flow_after : Config → ℕ → List Allocation → LiveFlow → LiveFlow
flow_after c start plan f = with_grants c (grants_to start f.sid plan) f

-- the live flows after these allocations of the frame
abbrev pub flows_after : Config → ℕ → List Allocation → List LiveFlow → List LiveFlow
flows_after c start plan flows = map (flow_after c start plan) flows

-- the first minislot from this one on at which a spot begins, or the end of the frame
abbrev pub next_stop : Config → List Spot → ℕ → ℕ
next_stop c [] offset = c.frame
next_stop c (s ∷ spots) offset =
    if nat_le offset s.offset then min s.offset (next_stop c spots offset) else next_stop c spots offset

-- the minislots from here to the next poll, unsolicited grant or the end of the frame
abbrev pub room_at : Config → List Spot → ℕ → ℕ
room_at c spots offset = next_stop c spots offset - offset

-- What the frame has of a flow is among the spots of the frame
abbrev pub IsSpot : List Spot → ℕ → Option ℕ → ℕ → ℕ → Type 0
IsSpot spots sid size offset slots = Contains spots (record { sid = sid; size = size; offset = offset; slots = slots })

-- one of these allocations is the opportunity at this place
abbrev pub IsMetIn : List Allocation → ℕ → Type 0
IsMetIn plan place = (a : Allocation) × Contains plan a × (place_of a.purpose ≡ Some place)

-- the opportunity that waits at this place is not met yet, and is at most as long as the room
pub record MayMeet (waiting : List Opportunity) (before : List Allocation) (room place : ℕ) (o : Opportunity) :
    Type 0 where
  pub waits : slice_get waiting place ≡ Some o
  pub unmet : IsMetIn before place → ⊥
  pub fits : o.slots ≤ room

-- no such opportunity waits
abbrev pub NoneToMeet : List Opportunity → List Allocation → ℕ → Type 0
NoneToMeet waiting before room = (place : ℕ) (o : Opportunity) → MayMeet waiting before room place o → ⊥

-- it is the first such
pub record IsFirstToMeet (waiting : List Opportunity) (before : List Allocation) (room place : ℕ) (o : Opportunity) :
    Type 0 where
  pub may : MayMeet waiting before room place o
  pub first : (earlier : ℕ) (p : Opportunity) → MayMeet waiting before room earlier p → place ≤ earlier

-- nothing of this class is to stand here, where these allocations stand before. What has its place in the cycle begins
-- only where there is no room up to it.
abbrev pub NoneOf : Config → Demand → List Allocation → ℕ → Class → Type 0
NoneOf c d before offset Placed = 0 < room_at c d.spots offset
NoneOf c d before offset Reserved = NoneToMeet d.waiting before (room_at c d.spots offset)
NoneOf c d before offset Requested = (most_grants c d.waiting ≤ grants_in before)
    ⊎ NoneEligible c (flows_after c d.start before d.flows) (d.start + offset) (room_at c d.spots offset)
NoneOf c d before offset Left = ⊥

-- an allocation of so many minislots for this purpose is the one of its class here, where these stand before
abbrev pub IsOfClass : Config → Demand → List Allocation → ℕ → ℕ → Purpose → Type 0
IsOfClass c d before offset slots (Poll sid) = IsSpot d.spots sid None offset slots
IsOfClass c d before offset slots (UnsolicitedGrant sid size) =
    IsSpot d.spots sid (Some size) offset slots
IsOfClass c d before offset slots (Offer place usage) =
    IsFirstToMeet d.waiting before (room_at c d.spots offset) place (record { usage = usage; slots = slots })
IsOfClass c d before offset slots (DataGrant sid bytes) = (grants_in before < most_grants c d.waiting)
    × (f : LiveFlow) × (f.sid ≡ sid)
    × IsNext c (flows_after c d.start before d.flows) (d.start + offset) (room_at c d.spots offset) f
    × IsAmount c f (d.start + offset) (room_at c d.spots offset) bytes × (slots ≡ slots_for c bytes)
IsOfClass c d before offset slots Idle = slots ≡ room_at c d.spots offset

-- the allocation may stand after these: it is not empty, begins where they end, is the one of its class, and nothing of
-- a class before its own is to stand there
pub record Stands (c : Config) (d : Demand) (before : List Allocation) (a : Allocation) : Type 0 where
  pub some_slots : 0 < a.slots
  pub follows : a.offset ≡ end_of c before
  pub purpose : IsOfClass c d before a.offset a.slots a.purpose
  pub first : AllByRecursion (NoneOf c d before a.offset) (classes_before (class_of a.purpose))

-- The allocations fill a frame, lawfully for what it has to serve. There are none where nobody sends in it.
pub record IsPlan (c : Config) (d : Demand) (plan : List Allocation) : Type 0 where
  pub each : EachAfter (Stands c d) [] plan
  pub whole : d.settles ≡ false → end_of c plan ≡ c.frame
  pub due : d.settles ≡ false → AllByRecursion (λ s. Contains plan (allocation_of s)) d.spots
  pub quiet : d.settles ≡ true → plan ≡ []
