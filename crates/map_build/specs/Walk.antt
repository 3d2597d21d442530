-- The walk along a frame: the draft has a plan up to where it is, and what stands next is one more of it.
use Rattle.std.specs.Prelude.{◌≡◌, ℕ, ◌+◌, ◌<◌, ◌≤◌, ◌^◌, ◌⊎◌, true, List, [], ◌∷◌, ◌++◌, map, length}
use Rattle.std.specs.Prelude.{Contains, Option, None, Some, IsSomeAnd}
use Rattle.std.specs.List.{AllByRecursion, slice_get}
use Rattle.minislots.specs.declared.config.Config.{Config}
use Rattle.minislots.specs.Config.{IsLawful}
use Rattle.minislots.specs.Units.{slots_for}
use Rattle.flow_book.specs.Flows.{LiveFlow, flow_of}
use Rattle.flow_book.specs.Choice.{IsNext, IsAmount, NoneEligible, HasStartedBy}
use Rattle.periodic.specs.declared.placement.Spot.{Spot}
use Rattle.map_build.specs.declared.TheConstants.{MAX_WAITING}
use Rattle.map_build.specs.declared.draft.Draft.{Draft}
use Rattle.sched_calls.specs.declared.opportunity.Opportunity.{Opportunity}
use Rattle.map_build.specs.declared.purpose.Allocation.{Allocation}
use Rattle.map_build.specs.declared.purpose.Chosen.{Chosen}
use Rattle.map_build.specs.declared.purpose.Purpose.TheVariants.{Offer, DataGrant}
use Rattle.map_build.specs.EachAfter.{EachAfter}
use Rattle.map_build.specs.Purpose.{element_of, bytes_in, allocation_of}
use Rattle.map_build.specs.Opportunities.{IsFirstUnmet, NoneUnmet}
use Rattle.map_build.specs.Plan.{Demand, demand_at, most_grants, grants_in, end_of, flows_after, IsMetIn, Stands}
use Rattle.map_build.specs.FrameMap.{request_region, AreMet}

-- the draft has a mark for each place, and no grant of its flows starts later than where it is
pub record IsWellBegun (waiting : List Opportunity) (d : Draft) : Type 0 where
  pub lawful : IsLawful d.overlay.config
  pub near : d.start ≤ 2 ^ 61
  pub inside : d.offset ≤ d.overlay.config.frame
  pub marks : length d.met ≡ MAX_WAITING
  pub few : d.grants ≤ most_grants d.overlay.config waiting
  pub started : AllByRecursion (HasStartedBy (d.start + d.offset)) d.overlay.flows

-- the flows and the places of a draft with an allocation more
pub record Knows (a : Allocation) (old new : Draft) : Type 0 where
  pub config : new.overlay.config ≡ old.overlay.config
  pub before : new.overlay.before ≡ old.overlay.before
  pub flows : new.overlay.flows ≡ flows_after old.overlay.config old.start (a ∷ []) old.overlay.flows
  pub grants : new.grants ≡ old.grants + grants_in (a ∷ [])
  pub marks : length new.met ≡ length old.met
  pub met : (place : ℕ) → slice_get new.met place ≡ Some true
      → (slice_get old.met place ≡ Some true) ⊎ IsMetIn (a ∷ []) place
  pub kept : (place : ℕ) → slice_get old.met place ≡ Some true → slice_get new.met place ≡ Some true
  pub new_met : (place : ℕ) → IsMetIn (a ∷ []) place → slice_get new.met place ≡ Some true
  pub start : new.start ≡ old.start

-- a draft with the same elements
pub record HasSame (old new : Draft) : Type 0 where
  pub elements : new.elements.items ≡ old.elements.items
  pub bytes_of : new.bytes.items ≡ old.bytes.items
  pub offset : new.offset ≡ old.offset

-- the opportunity of a place here
abbrev pub offer_here : Draft → ℕ → Opportunity → Allocation
offer_here d place o = record { offset = d.offset; slots = o.slots; purpose = Offer place o.usage }

-- the draft knows of the first opportunity that waits and is at most as long as the room; its element is to come
pub record Meets (waiting : List Opportunity) (room : ℕ) (a : Allocation) (old new : Draft) : Type 0 where
  pub knows : Knows a old new
  pub same : HasSame old new
  pub place : ℕ
  pub first : IsFirstUnmet waiting old.met room place
  pub is : a ≡ offer_here old place first.is.opportunity

-- the draft knows of that opportunity; if there is none nothing changes
abbrev pub MeetsNext : List Opportunity → ℕ → Option Allocation → Draft → Draft → Type 0
MeetsNext waiting room None old new = (new ≡ old) × NoneUnmet waiting old.met room
MeetsNext waiting room (Some a) old new = Meets waiting room a old new

-- a data grant here
abbrev pub grant_here : Draft → ℕ → ℕ → Allocation
grant_here d sid bytes = record {
  offset = d.offset;
  slots = slots_for d.overlay.config bytes;
  purpose = DataGrant sid bytes;
}

-- the flow with this SID is next here, in so many minislots, and these are the bytes that it gets
abbrev pub IsNextAmount : Draft → ℕ → ℕ → ℕ → Type 0
IsNextAmount d room sid bytes = IsSomeAnd (flow_of sid d.overlay.flows)
    (λ f. IsNext d.overlay.config d.overlay.flows (d.start + d.offset) room f
    × IsAmount d.overlay.config f (d.start + d.offset) room bytes)

-- no more data grant stands here, in so many minislots: there are as many as may be, or no flow is eligible
abbrev pub NoneServed : List Opportunity → Draft → ℕ → Type 0
NoneServed waiting d room = (most_grants d.overlay.config waiting ≤ d.grants)
    ⊎ NoneEligible d.overlay.config d.overlay.flows (d.start + d.offset) room

-- the draft knows of a data grant, of its amount, to the flow that is next; its element is to come
pub record Serves (waiting : List Opportunity) (room : ℕ) (a : Allocation) (old new : Draft) : Type 0 where
  pub knows : Knows a old new
  pub same : HasSame old new
  pub few : old.grants < most_grants old.overlay.config waiting
  pub sid : ℕ
  pub bytes : ℕ
  pub next : IsNextAmount old room sid bytes
  pub is : a ≡ grant_here old sid bytes

-- the draft knows of that data grant; if none may stand here nothing changes
abbrev pub ServesNext : List Opportunity → ℕ → Option Chosen → Draft → Draft → Type 0
ServesNext waiting room None old new = (new ≡ old) × NoneServed waiting old room
ServesNext waiting room (Some grant) old new = Serves waiting room grant.allocation old new

-- the draft is where this plan ends, and its book has the plan's grants
pub record IsAfter (flows : List LiveFlow) (plan : List Allocation) (d : Draft) : Type 0 where
  pub flows_now : d.overlay.flows ≡ flows_after d.overlay.config d.start plan flows
  pub ends : d.offset ≡ end_of d.overlay.config plan
  pub grants : d.grants ≡ grants_in plan
  pub met : AreMet plan d.met

-- the allocation that stands next, of which the draft knows and whose element is to come
pub record Chooses (spots : List Spot) (waiting : List Opportunity) (a : Allocation) (old new : Draft) : Type 0 where
  pub knows : Knows a old new
  pub same : HasSame old new
  pub here : a.offset ≡ old.offset
  pub stands : (flows : List LiveFlow) (plan : List Allocation) → IsAfter flows plan old →
      Stands old.overlay.config (demand_at flows spots waiting old.start) plan a

-- a draft with an allocation more, of which its book knows
pub record Takes (a : Allocation) (old new : Draft) : Type 0 where
  pub knows : Knows a old new
  pub elements : new.elements.items ≡ old.elements.items ++ element_of old.overlay.config a ∷ []
  pub bytes_of : new.bytes.items ≡ old.bytes.items ++ bytes_in old.overlay.config a ∷ []
  pub offset : new.offset ≡ old.offset + a.slots

-- the spots before this minislot are in the plan
abbrev pub AreTaken : List Spot → List Allocation → ℕ → Type 0
AreTaken spots plan offset = AllByRecursion (λ s. s.offset < offset → Contains plan (allocation_of s)) spots

-- The draft has the request region and this plan, lawful up to where the draft is
pub record HasPlan (c : Config) (d : Demand) (plan : List Allocation) (draft : Draft) : Type 0 where
  pub config : draft.overlay.config ≡ c
  pub before : draft.overlay.before ≡ d.flows
  pub starts : draft.start ≡ d.start
  pub ready : IsWellBegun d.waiting draft
  pub after : IsAfter d.flows plan draft
  pub elements : draft.elements.items ≡ request_region ∷ map (element_of c) plan
  pub bytes_of : draft.bytes.items ≡ 0 ∷ map (bytes_in c) plan
  pub each : EachAfter (Stands c d) [] plan
  pub taken : AreTaken d.spots plan draft.offset

-- the draft has the request region alone
abbrev pub IsUnfilled : List Spot → List Opportunity → Draft → Type 0
IsUnfilled spots waiting d = HasPlan d.overlay.config (demand_at d.overlay.flows spots waiting d.start) [] d

-- a draft whose frame is filled by a plan
abbrev pub IsFilled : List Spot → List Opportunity → Draft → Draft → Type 0
IsFilled spots waiting old new = (plan : List Allocation)
    × HasPlan old.overlay.config (demand_at old.overlay.flows spots waiting old.start) plan new
    × (new.offset ≡ old.overlay.config.frame)
