-- A lawful MAP is lawful for the same spots in any order.
use Rattle.std.proofs.Common.{◌≡◌, ℕ, zero, suc, ◌+◌, ◌*◌, Result, ◌<◌, ◌≤◌, List, [], ◌∷◌, ◌++◌, length, Contains}
use Rattle.std.proofs.Common.{inl, inr, refl, subst, ◌∙◌, arith}
use Rattle.std.specs.List.{AllByRecursion}
use Rattle.std.specs.List.Sorted.{IsPermutation}
use Rattle.std.specs.Result.{IfOk}
use Rattle.std.proofs.lemmas.Result.{IfOk-weaker}
use Rattle.std.proofs.lemmas.List.Sorted.{Contains-permutation, IsPermutation-sym}
use Rattle.minislots.specs.declared.config.Config.{Config}
use Rattle.flow_book.specs.Flows.{LiveFlow}
use Rattle.flow_book.specs.Choice.{IsNext, IsAmount, NoneEligible}
use Rattle.periodic.specs.declared.placement.Spot.{Spot}
use Rattle.periodic.specs.Placement.{Placed as PlacedFlow, due_in}
use Rattle.periodic.specs.Table.{FollowInTurn, IsWithinFrame}
use Rattle.map_build.specs.declared.frame.PlannedFrame.{PlannedFrame}
use Rattle.sched_calls.specs.declared.frame_map.FrameMap.{FrameMap}
use Rattle.sched_calls.specs.declared.opportunity.Header.{Header}
use Rattle.sched_calls.specs.declared.opportunity.Opportunity.{Opportunity}
use Rattle.map_build.specs.declared.purpose.Allocation.{Allocation}
use Rattle.map_build.specs.declared.purpose.Purpose.{Purpose}
use Rattle.map_build.specs.declared.purpose.Purpose.TheVariants.{Poll, UnsolicitedGrant, Offer, DataGrant, Idle}
use Rattle.map_build.specs.EachAfter.{EachAfter}
use Rattle.map_build.specs.Purpose.{Class, Placed, Reserved, Requested, Left, class_of, classes_before, allocation_of}
use Rattle.map_build.specs.Plan.{Demand, demand_at, next_stop, room_at, flows_after, IsFirstToMeet, NoneToMeet}
use Rattle.map_build.specs.Plan.{NoneOf, IsOfClass, Stands, IsPlan}
use Rattle.map_build.specs.FrameMap.{IsLawfulMap, IsLawfulFrame}
use Rattle.map_build.specs.declared.met.Met.{Met}
use Rattle.map_build.specs.Reading.{met_at, met_over}
use Rattle.map_build.specs.Spots.{IsInFrame, AreInFrame, HaveFlowSids}
use Rattle.map_build.proofs.Left.{with_spots, all-weaker}
use Rattle.map_build.proofs.Standings.{member-at}
use Rattle.map_build.proofs.Stops.{next_stop-most, next_stop-is, next_stop-spot}

-- what holds of each member holds of all
pub all-members : {X : Type 0} (P : X → Type 0) (xs : List X) → ((x : X) → Contains xs x → P x) → AllByRecursion P xs
all-members P [] each = tt
all-members P (x ∷ xs) each = (
  each x (zero, omega arith, refl),
  all-members P xs (λ y (k, lt, at). each y (suc k, omega arith, at)),
)

-- each of the spots is among the others
abbrev AreAmong : List Spot → List Spot → Type 0
AreAmong spots others = (s : Spot) → Contains spots s → Contains others s

-- where there are more spots the next stop is no later
next_stop-among : (c : Config) (spots others : List Spot) (offset : ℕ) → AreAmong spots others →
    next_stop c others offset ≤ next_stop c spots offset
next_stop-among c spots others offset among = elim (next_stop-is c spots offset) [
  | inl end ↦ omega (arith, end, next_stop-most c others offset)
  | inr is ↦ omega (arith, is.3, next_stop-spot c others offset is.0 (among is.0 is.1) is.2)
]

-- in another order they leave the same room
room_at-reordered : (c : Config) (spots others : List Spot) (offset : ℕ) → IsPermutation spots others →
    room_at c spots offset ≡ room_at c others offset
room_at-reordered c spots others offset moved =
    omega (
      arith,
      next_stop-among c spots others offset (λ s has. Contains-permutation spots others s moved has),
      next_stop-among c others spots offset
          (λ s has. Contains-permutation others spots s (IsPermutation-sym spots others moved) has),
    )

-- so the same is met
pub met_over-reordered : (c : Config) (spots others : List Spot) (waiting : List Opportunity) (met : List Met)
    (offsets : List ℕ) → IsPermutation spots others →
    met_over c spots waiting met offsets ≡ met_over c others waiting met offsets
met_over-reordered c spots others waiting met [] moved = refl
met_over-reordered c spots others waiting met (offset ∷ offsets) moved =
    rw (room_at-reordered c spots others offset moved)
    (met_over-reordered c spots others waiting (met ++ met_at c others waiting met offset) offsets moved)

module _ (c : Config) (d : Demand) (others : List Spot) (there : AreAmong d.spots others)
    (back : AreAmong others d.spots) where
  same-room : (offset : ℕ) → room_at c d.spots offset ≡ room_at c others offset
  same-room offset =
      omega (arith, next_stop-among c d.spots others offset there, next_stop-among c others d.spots offset back)

  same-purpose : (before : List Allocation) (offset slots : ℕ) (purpose : Purpose) →
      IsOfClass c d before offset slots purpose → IsOfClass c (with_spots others d) before offset slots purpose
  same-purpose before offset slots (Poll sid) is = there _ is
  same-purpose before offset slots (UnsolicitedGrant sid size) is = there _ is
  same-purpose before offset slots (Offer place usage) is =
      subst (λ r. IsFirstToMeet d.waiting before r place (record { usage = usage; slots = slots }))
      (same-room offset) is
  same-purpose before offset slots (DataGrant sid bytes) is = (
    is.0,
    is.1,
    is.2,
    subst (λ r. IsNext c (flows_after c d.start before d.flows) (d.start + offset) r is.1) (same-room offset) is.3,
    subst (λ r. IsAmount c is.1 (d.start + offset) r bytes) (same-room offset) is.4,
    is.5,
  )
  same-purpose before offset slots Idle is = is ∙ same-room offset

  same-none : (before : List Allocation) (offset : ℕ) (r : Class) → NoneOf c d before offset r →
      NoneOf c (with_spots others d) before offset r
  same-none before offset Placed none = subst (λ r. 0 < r) (same-room offset) none
  same-none before offset Reserved none = subst (λ r. NoneToMeet d.waiting before r) (same-room offset) none
  same-none before offset Requested none = elim none [
    | inl full ↦ inl full
    | inr nobody ↦ inr (subst (λ r. NoneEligible c (flows_after c d.start before d.flows) (d.start + offset) r)
        (same-room offset) nobody)
  ]
  same-none before offset Left none = none

  same-each : (before plan : List Allocation) → EachAfter (Stands c d) before plan →
      EachAfter (Stands c (with_spots others d)) before plan
  same-each before [] each = tt
  same-each before (a ∷ plan) each = (
    record {
      some_slots = each.0.some_slots;
      follows = each.0.follows;
      purpose = same-purpose before a.offset a.slots a.purpose each.0.purpose;
      first = all-weaker (NoneOf c d before a.offset) (NoneOf c (with_spots others d) before a.offset)
          (classes_before (class_of a.purpose)) (same-none before a.offset) each.0.first;
    },
    same-each (before ++ a ∷ []) plan each.1,
  )

  -- a plan round the ones is one round the others
  plan-among : (plan : List Allocation) → IsPlan c d plan → IsPlan c (with_spots others d) plan
  plan-among plan is = record {
    each = same-each [] plan is.each;
    whole = is.whole;
    due = λ sends. all-members (λ (t : Spot). Contains plan (allocation_of t)) others
        (λ s has. member-at (λ (t : Spot). Contains plan (allocation_of t)) d.spots s (is.due sends) (back s has));
    quiet = is.quiet;
  }

-- a plan round spots in one order is one in another
plan-reordered : (c : Config) (d : Demand) (others : List Spot) (plan : List Allocation) →
    IsPermutation d.spots others → IsPlan c d plan → IsPlan c (with_spots others d) plan
plan-reordered c d others plan moved is =
    plan-among c d others (λ s has. Contains-permutation d.spots others s moved has)
    (λ s has. Contains-permutation others d.spots s (IsPermutation-sym d.spots others moved) has) plan is

-- a frame that is lawful for spots in one order is so in another
frame-reordered : (c : Config) (d : Demand) (others : List Spot) (header : Header) (ack : ℕ) (p : PlannedFrame) →
    IsPermutation d.spots others → IsLawfulFrame c (with_spots others d) header ack p →
    IsLawfulFrame c d header ack p
frame-reordered c d others header ack p moved is = record {
  plan = is.plan;
  is_plan = plan-reordered c (with_spots others d) d.spots is.plan (IsPermutation-sym d.spots others moved) is.is_plan;
  map = is.map;
  before = is.before;
  flows = is.flows;
  met = is.met;
}

-- and a MAP the other way round
lawful-in_order : (c : Config) (d : Demand) (others : List Spot) (header : Header) (ack : ℕ) (m : FrameMap) →
    IsPermutation d.spots others → IsLawfulMap c d header ack m → IsLawfulMap c (with_spots others d) header ack m
lawful-in_order c d others header ack m moved (plan, is, made) = (plan, plan-reordered c d others plan moved is, made)

each-in_frame : (c : Config) (spots : List Spot) → AllByRecursion (IsWithinFrame c) spots →
    AllByRecursion (IsInFrame c) spots
each-in_frame c [] within = tt
each-in_frame c (s ∷ spots) within = (
  record { some_slots = within.0.not_empty; after_requests = within.0.after_requests; within = within.0.within_frame },
  each-in_frame c spots within.1,
)

-- what a table tells of a frame are spots of the frame
pub written-in_frame : (c : Config) (spots : List Spot) → length spots ≤ 40 → FollowInTurn spots →
    AllByRecursion (IsWithinFrame c) spots → AreInFrame c spots
written-in_frame c spots few turn within = record { few = few; each = each-in_frame c spots within; in_turn = turn }

-- of flows
pub written-sids : (c : Config) (spots : List Spot) → AllByRecursion (IsWithinFrame c) spots → HaveFlowSids spots
written-sids c [] within = tt
written-sids c (s ∷ spots) within =
    ((omega (arith, within.0.sid_positive), within.0.sid_most), written-sids c spots within.1)

-- what is lawful for the spots that a table tells of frame k is lawful for those of its placements
pub frame-told : {E : Type 0} (c d : Config) (flows : List LiveFlow) (waiting : List Opportunity) (header : Header)
    (k n ack : ℕ) (placed : List PlacedFlow) (spots : List Spot) (r : Result PlannedFrame E) →
    d ≡ c → IsPermutation (due_in d k placed) spots → n ≡ c.frame →
    IfOk r (λ p. IsLawfulFrame c (demand_at flows spots waiting (k * n)) header ack p) →
    IfOk r (λ p. IsLawfulFrame c (demand_at flows (due_in c k placed) waiting (k * c.frame)) header ack p)
frame-told c d flows waiting header k n ack placed spots r same moved slots lawful =
    IfOk-weaker r _ _
    (λ p is. frame-reordered c (demand_at flows (due_in c k placed) waiting (k * c.frame)) spots header ack p
    (subst (λ e. IsPermutation (due_in e k placed) spots) same moved) is)
    (rw slots at lawful)

-- and there is no other
pub only-told : {E : Type 0} (c d : Config) (flows : List LiveFlow) (waiting : List Opportunity) (header : Header)
    (k n ack : ℕ) (placed : List PlacedFlow) (spots : List Spot) (r : Result PlannedFrame E) →
    d ≡ c → IsPermutation (due_in d k placed) spots → n ≡ c.frame →
    IfOk r (λ p. (other : FrameMap) → IsLawfulMap c (demand_at flows spots waiting (k * n)) header ack other →
    other ≡ p.map) →
    IfOk r (λ p. (other : FrameMap) →
    IsLawfulMap c (demand_at flows (due_in c k placed) waiting (k * c.frame)) header ack other → other ≡ p.map)
only-told c d flows waiting header k n ack placed spots r same moved slots only =
    IfOk-weaker r _ _
    (λ p is other lawful. is other
    (lawful-in_order c (demand_at flows (due_in c k placed) waiting (k * c.frame)) spots header ack other
    (subst (λ e. IsPermutation (due_in e k placed) spots) same moved) lawful))
    (rw slots at only)
