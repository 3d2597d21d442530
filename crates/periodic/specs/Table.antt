-- What contracts see of a table of placements, and what is true of each.
use Rattle.std.specs.Prelude.{◌≡◌, ℕ, ◌+◌, ◌<◌, ◌≤◌, ◌⊎◌, Bool, true, false, ◌==◌, List, [], ◌∷◌, length, map}
use Rattle.std.specs.Prelude.{sum_by, find, None, IsSome, if◌then◌else◌}
use Rattle.std.specs.List.{AllByRecursion}
use Rattle.minislots.specs.declared.config.Config.{Config}
use Rattle.sched_calls.specs.declared.spec.FlowSpec.{FlowSpec}
use Rattle.sched_calls.specs.declared.placement.Placement.{Placement}
use Rattle.sched_calls.specs.FlowSpec.{is_periodic, periodic_slots, grants_of, first_fault}
use Rattle.sched_calls.specs.Sids.{AscendBy, put_in, taken_out}
use Rattle.periodic.specs.declared.TheConstants.{MAX_SPOTS}
use Rattle.periodic.specs.declared.placement.Spot.{Spot}
use Rattle.periodic.specs.Placement.{Placed, offset_of, spots_in, HasLawfulStarts, IsPlacement}

-- the channel's configuration, and the placed flows in order of SID
pub record TableView : Type 0 where
  pub config : Config
  pub placed : List Placed

-- a flow with its placement, which does not rest
abbrev pub placed_at : ℕ → FlowSpec → Placement → Placed
placed_at sid spec p = record { sid = sid; spec = spec; placement = p; rests = false }

-- the grants per interval of placed flows
abbrev pub placed_grants : List Placed → ℕ
placed_grants placed = sum_by (λ f. grants_of f.spec) placed

-- some placement is lawful
abbrev pub HasPlacement : Config → List Placed → FlowSpec → ℕ → Type 0
HasPlacement c table spec next = (p : Placement) × IsPlacement c table spec next p

-- a flow with this SID is placed
abbrev pub IsPlaced : ℕ → List Placed → Type 0
IsPlaced sid placed = IsSome (find (λ f. f.sid == sid) placed)

-- no flow with this SID is placed
abbrev pub IsNotPlaced : ℕ → List Placed → Type 0
IsNotPlaced sid placed = find (λ f. f.sid == sid) placed ≡ None

-- the placed flows with one more, in order of SID
abbrev pub with_placed : Placed → List Placed → List Placed
with_placed f placed = put_in (λ g. g.sid) f placed

-- the placed flows but that of this SID
abbrev pub without : ℕ → List Placed → List Placed
without sid placed = taken_out (λ f. f.sid) sid placed

-- a placed flow, resting or not
abbrev pub resting : Bool → Placed → Placed
resting rests f = record f { rests = rests }

-- the placed flows, with that of this SID resting or not
abbrev pub with_rest : ℕ → Bool → List Placed → List Placed
with_rest sid rests placed = map (λ f. if f.sid == sid then resting rests f else f) placed

-- a grant of the flow has room for a poll
abbrev pub HasRoomToPoll : Config → Placed → Type 0
HasRoomToPoll c f = c.poll_slots ≤ periodic_slots c f.spec

-- SIDs ascend
abbrev pub Ascend : List Placed → Type 0
Ascend placed = AscendBy (λ f. f.sid) placed

-- Two spots have no minislot in common
abbrev pub IsApart : Spot → Spot → Type 0
IsApart s t = (s.offset + s.slots ≤ t.offset) ⊎ (t.offset + t.slots ≤ s.offset)

-- no two of these spots have a minislot in common
abbrev pub AreApart : List Spot → Type 0
AreApart [] = Unit {0}
AreApart (s ∷ spots) = AllByRecursion (IsApart s) spots × AreApart spots

-- each spot ends at or before where those after it begin
abbrev pub FollowInTurn : List Spot → Type 0
FollowInTurn [] = Unit {0}
FollowInTurn (s ∷ spots) = AllByRecursion (λ t. s.offset + s.slots ≤ t.offset) spots × FollowInTurn spots

-- A spot of a flow's SID that is not empty, behind the request region and within the frame
pub record IsWithinFrame (c : Config) (s : Spot) : Type 0 where
  pub sid_positive : 0 < s.sid
  pub sid_most : s.sid ≤ 8191
  pub after_requests : c.req_slots ≤ s.offset
  pub not_empty : 0 < s.slots
  pub within_frame : s.offset + s.slots ≤ c.frame

-- A flow of a SID from 1 to 8191 with parameters that have no fault, placed lawfully apart from what other flows take,
-- and with room for a poll where it rests
pub record IsSoundPlaced (c : Config) (f : Placed) : Type 0 where
  pub sid_positive : 0 < f.sid
  pub sid_most : f.sid ≤ 8191
  pub periodic : is_periodic f.spec ≡ true
  pub no_fault : first_fault c f.spec ≡ None
  pub after_requests : c.req_slots ≤ offset_of c f.placement
  pub starts : HasLawfulStarts c f.spec f.placement (λ place. [])
  pub polled : f.rests ≡ true → HasRoomToPoll c f

-- What is true of the placed flows of every table
pub record AreSound (c : Config) (placed : List Placed) : Type 0 where
  pub ascending : Ascend placed
  pub most : placed_grants placed ≤ c.periodic
  pub each : AllByRecursion (IsSoundPlaced c) placed
  pub apart : (k : ℕ) → AreApart (spots_in c k placed)
  pub few : (k : ℕ) → length (spots_in c k placed) ≤ MAX_SPOTS
