-- Lawful placements of periodic flows: nominal intervals and tolerated jitter, in a cycle of frames.
use Rattle.std.specs.Prelude.{◌≡◌, ℕ, zero, suc, ◌+◌, ◌*◌, ◌/◌, ◌%◌, ◌<◌, ◌≤◌, ◌⊎◌, Bool, ◌==◌, List, [], ◌∷◌}
use Rattle.std.specs.Prelude.{map, length, take, drop, None, if◌then◌else◌}
use Rattle.std.specs.List.{AllByRecursion, flat_map}
use Rattle.minislots.specs.declared.config.Config.{Config}
use Rattle.sched_calls.specs.declared.spec.FlowSpec.{FlowSpec}
use Rattle.sched_calls.specs.FlowSpec.{size_of, interval_frames, jitter_slots, periodic_slots, grants_of}
use Rattle.sched_calls.specs.declared.placement.Placement.{Placement}
use Rattle.periodic.specs.declared.TheConstants.{MAX_SPOTS}
use Rattle.periodic.specs.declared.placement.Spot.{Spot}

-- a periodic flow with its placement, and whether it rests
pub record Placed : Type 0 where
  pub sid : ℕ
  pub spec : FlowSpec
  pub placement : Placement
  pub rests : Bool

-- the numbers from first on, so many of them
abbrev pub count_from : ℕ → ℕ → List ℕ
count_from first zero = []
count_from first (suc n) = first ∷ count_from (first + 1) n

-- the frame of the interval in which a placement has its nominal times
abbrev pub phase_of : Config → FlowSpec → Placement → ℕ
phase_of c spec p = p.reference / c.frame % interval_frames c spec

-- the minislot of the frame at which it has them
abbrev pub offset_of : Config → Placement → ℕ
offset_of c p = p.reference % c.frame

-- the group at this index, from 0, of a list of groups of this size
abbrev pub group_at : ℕ → ℕ → List ℕ → List ℕ
group_at size index starts = take size (drop (index * size) starts)

-- a placement's starts in the frame at this place of the cycle: none where that is no nominal frame
abbrev pub starts_in : Config → FlowSpec → Placement → ℕ → List ℕ
starts_in c spec p place = if place % interval_frames c spec == phase_of c spec p
    then group_at (grants_of spec) (place / interval_frames c spec) p.starts else []

-- what a placed flow takes of a frame from this start on
abbrev pub spot_at : Config → Placed → ℕ → Spot
spot_at c flow start = record {
  sid = flow.sid;
  size = size_of flow.spec;
  offset = start;
  slots = periodic_slots c flow.spec;
}

-- what a placed flow takes of frame k
abbrev pub spots_of : Config → ℕ → Placed → List Spot
spots_of c k flow = map (spot_at c flow) (starts_in c flow.spec flow.placement (k % c.cycle))

-- what the placed flows take of frame k
abbrev pub spots_in : Config → ℕ → List Placed → List Spot
spots_in c k table = flat_map (spots_of c k) table

-- the poll of a flow that rests, from this start on
abbrev pub poll_at : Config → Placed → ℕ → Spot
poll_at c flow start = record { sid = flow.sid; size = None; offset = start; slots = c.poll_slots }

-- where a placed flow is to have something in the frame at this place of the cycle: at its starts there, or where it
-- rests at the first of them alone
abbrev pub due_starts : Config → Placed → ℕ → List ℕ
due_starts c flow place = if flow.rests then take 1 (starts_in c flow.spec flow.placement place)
    else starts_in c flow.spec flow.placement place

-- what it is to have there: what it takes, or where it rests a poll
abbrev pub due_at : Config → Placed → ℕ → Spot
due_at c flow start = if flow.rests then poll_at c flow start else spot_at c flow start

-- what a placed flow is to have of frame k: what it takes, or where it rests a poll at the first of its starts
abbrev pub due_of : Config → ℕ → Placed → List Spot
due_of c k flow = map (due_at c flow) (due_starts c flow (k % c.cycle))

-- what the placed flows are to have of frame k
abbrev pub due_in : Config → ℕ → List Placed → List Spot
due_in c k table = flat_map (due_of c k) table

-- none of these spots has one of the minislots
abbrev pub AreFree : List Spot → ℕ → ℕ → Type 0
AreFree spots start slots = AllByRecursion (λ s. (start + slots ≤ s.offset) ⊎ (s.offset + s.slots ≤ start)) spots

-- A grant or poll of so many minislots may start at this minislot of a frame. The flow's nominal time is at the offset:
-- the start is not before that, and not after it by more than the tolerated jitter; the grant ends within the frame,
-- and none of its minislots is one of the spots, which other flows have in that frame
pub record IsLawfulStart (c : Config) (jitter slots offset : ℕ) (spots : List Spot) (start : ℕ) : Type 0 where
  pub after_nominal : offset ≤ start
  pub within_jitter : start ≤ offset + jitter
  pub within_frame : start + slots ≤ c.frame
  pub free : AreFree spots start slots

-- grants of one length stand one after the other: the first starts at this minislot or later, and each other one where
-- the one before it ends, or later
abbrev pub FollowFrom : ℕ → ℕ → List ℕ → Type 0
FollowFrom slots from [] = Unit {0}
FollowFrom slots from (start ∷ starts) = (from ≤ start) × FollowFrom slots (start + slots) starts

-- A flow may have these starts in one of its frames, in which others have the spots: as many as it has grants in an
-- interval, no two of its grants overlap and their starts ascend, and each is lawful by itself, within the jitter of
-- the same nominal time
pub record AreLawfulStarts (c : Config) (spec : FlowSpec) (offset : ℕ) (spots : List Spot) (starts : List ℕ)
    : Type 0 where
  pub count : length starts ≡ grants_of spec
  pub in_turn : FollowFrom (periodic_slots c spec) offset starts
  pub each : AllByRecursion (IsLawfulStart c (jitter_slots c spec) (periodic_slots c spec) offset spots) starts

-- The placement has its starts in each frame of the cycle in which the flow has a nominal time, one such frame in every
-- interval, and in no other; in each they are lawful beside what other flows have there. The spots are given by the
-- frame's place in the cycle
pub record HasLawfulStarts (c : Config) (spec : FlowSpec) (p : Placement) (spots : ℕ → List Spot) : Type 0 where
  pub count : length p.starts ≡ c.cycle / interval_frames c spec * grants_of spec
  pub each : (place : ℕ) → place < c.cycle → place % interval_frames c spec ≡ phase_of c spec p
      → AreLawfulStarts c spec (offset_of c p) (spots place) (starts_in c spec p place)

-- in no frame of the cycle are there more starts than a frame may have: those of the flows of the table, and the
-- placement's own
abbrev pub HasFewStarts : Config → List Placed → FlowSpec → Placement → Type 0
HasFewStarts c table spec p = (place : ℕ) → place < c.cycle
    → length (spots_in c place table) + length (starts_in c spec p place) ≤ MAX_SPOTS

-- The placement is lawful for a flow that is admitted while the next MAP's frame starts at next, beside the flows of
-- the table. Its reference is the flow's first nominal time from there on, as a minislot: at next or later, and less
-- than one interval later. That minislot gives the flow's frame in the interval (`phase_of`) and its offset in the
-- frame (`offset_of`), which lies behind the request region; the starts are lawful, and no frame has too many
pub record IsPlacement (c : Config) (table : List Placed) (spec : FlowSpec) (next : ℕ) (p : Placement) : Type 0 where
  pub not_before : next ≤ p.reference
  pub first : p.reference < next + interval_frames c spec * c.frame
  pub after_requests : c.req_slots ≤ offset_of c p
  pub starts : HasLawfulStarts c spec p (λ place. spots_in c place table)
  pub few : HasFewStarts c table spec p

-- no placement is lawful
abbrev pub NoPlacement : Config → List Placed → FlowSpec → ℕ → Type 0
NoPlacement c table spec next = (p : Placement) → IsPlacement c table spec next p → ⊥

-- A placement that stands, told from the start of a frame on, for a flow of these parameters: its starts, with the
-- flow's first nominal time from there on as the reference
pub record IsToldFrom (c : Config) (spec : FlowSpec) (next : ℕ) (stands p : Placement) : Type 0 where
  pub starts : p.starts ≡ stands.starts
  pub not_before : next ≤ p.reference
  pub first : p.reference < next + interval_frames c spec * c.frame
  pub phase : phase_of c spec p ≡ phase_of c spec stands
  pub offset : offset_of c p ≡ offset_of c stands
