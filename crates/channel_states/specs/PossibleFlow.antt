-- What a live flow of a possible state is by itself: its parameters, bytes, levels, place and batches.
use Rattle.std.specs.Prelude.{◌≡◌, ℕ, ◌+◌, ◌*◌, ◌<◌, ◌≤◌, ◌↔◌, true, false, Option, None}
use Rattle.std.specs.Prelude.{IfSome, IfNone, MatchOption, [], IsNone}
use Rattle.minislots.specs.declared.TheConstants.{MAX_ASK}
use Rattle.minislots.specs.declared.config.Config.{Config}
use Rattle.sched_calls.specs.declared.spec.FlowSpec.{FlowSpec}
use Rattle.sched_calls.specs.declared.spec.TheConstants.{PEAK_BURST}
use Rattle.sched_calls.specs.declared.state.BatchState.{BatchState}
use Rattle.sched_calls.specs.declared.state.FlowState.{FlowState}
use Rattle.sched_calls.specs.declared.state.PlaceState.{PlaceState}
use Rattle.sched_calls.specs.FlowSpec.{is_periodic, takes_requests, rate_of, burst_of, peak_of, reserved_of}
use Rattle.sched_calls.specs.FlowSpec.{reserved_burst_of, interval_frames, periodic_slots, first_fault}
use Rattle.periodic.specs.Placement.{HasLawfulStarts}
use Rattle.periodic.specs.Carried.{placement_of}

-- the minislot is one of a frame that a MAP may have described: from the channel's start to before the next frame
abbrev pub IsDescribed : Config → ℕ → ℕ → Type 0
IsDescribed c next slot = (c.start ≤ slot) × (slot < next)

-- The flow was granted no more than it asked, and asked no more than so many calls can ask for
pub record HasPossibleBytes (entries : ℕ) (f : FlowState) : Type 0 where
  pub within_asked : f.granted ≤ f.asked
  pub asked_most : f.asked ≤ MAX_ASK * entries

-- a last data grant starts in a described frame, and there is one exactly where bytes were granted
abbrev pub HasPossibleLast : Config → ℕ → FlowState → Type 0
HasPossibleLast c next f = MatchOption f.last (f.granted ≡ 0) (λ start. (0 < f.granted) × IsDescribed c next start)

-- The level of a rate and a burst, of a flow whose last data grant starts there: at most the burst, and all of it where
-- there is no grant
pub record IsPossibleLevel (burst : ℕ) (last : Option ℕ) (level : ℕ) : Type 0 where
  pub most : level ≤ 1280000 * burst
  pub full : IfNone last (level ≡ 1280000 * burst)

-- there is such a level exactly where the rate is above 0
abbrev pub HasPossibleLevel : ℕ → ℕ → Option ℕ → Option ℕ → Type 0
HasPossibleLevel rate burst last level =
    MatchOption level (rate ≡ 0) (λ units. (0 < rate) × IsPossibleLevel burst last units)

-- The levels of the flow's ceiling, of its peak rate and of its reservation
pub record HasPossibleLevels (f : FlowState) : Type 0 where
  pub sustained : HasPossibleLevel (rate_of f.spec) (burst_of f.spec) f.last f.sustained
  pub peak : HasPossibleLevel (peak_of f.spec) PEAK_BURST f.last f.peak
  pub reserved : HasPossibleLevel (reserved_of f.spec) (reserved_burst_of f.spec) f.last f.reserved

-- A flow that may rest: it is unsolicited, so it takes no requests, and a grant of it has room for a poll
pub record MayRest (c : Config) (spec : FlowSpec) : Type 0 where
  pub unsolicited : takes_requests spec ≡ false
  pub room : c.poll_slots ≤ periodic_slots c spec

-- A place of a flow by itself: its phase is a frame of the interval, its nominal offset lies in the frame behind the
-- request region, and its starts are lawful where no other flow has anything; it rests only where it may
pub record IsPossiblePlace (c : Config) (spec : FlowSpec) (place : PlaceState) : Type 0 where
  pub phase : place.phase < interval_frames c spec
  pub after_requests : c.req_slots ≤ place.offset
  pub within_frame : place.offset < c.frame
  pub starts : HasLawfulStarts c spec (placement_of c place) (λ k. [])
  pub rests : place.rests ≡ true → MayRest c spec

-- there is such a place exactly where the flow is periodic
abbrev pub HasPossiblePlace : Config → FlowState → Type 0
HasPossiblePlace c f = MatchOption f.place (is_periodic f.spec ≡ false)
    (λ place. (is_periodic f.spec ≡ true) × IsPossiblePlace c f.spec place)

-- The batches of a flow with bytes outstanding: some of the first are, it ends within what was asked, and behind it the
-- second has the rest, where there is a rest. The requests of both were heard in described frames
pub record ArePossibleBatches (c : Config) (next : ℕ) (f : FlowState) (b : BatchState) : Type 0 where
  pub outstanding : f.granted < b.end
  pub end_most : b.end ≤ f.asked
  pub second : IsNone b.second ↔ (b.end ≡ f.asked)
  pub first_heard : IsDescribed c next b.first
  pub second_heard : IfSome b.second (IsDescribed c next)

-- there are such batches exactly where bytes are outstanding
abbrev pub HasPossibleBatches : Config → ℕ → FlowState → Type 0
HasPossibleBatches c next f = MatchOption f.batches (f.asked ≡ f.granted) (ArePossibleBatches c next f)

-- A flow that may be live after so many entries, where the next frame starts there. Its SID is one that a flow may
-- have, and its parameters have no fault
pub record IsPossibleFlow (c : Config) (entries next : ℕ) (f : FlowState) : Type 0 where
  pub sid_positive : 0 < f.sid
  pub sid_most : f.sid ≤ 8191
  pub parameters : first_fault c f.spec ≡ None
  pub bytes : HasPossibleBytes entries f
  pub last : HasPossibleLast c next f
  pub levels : HasPossibleLevels f
  pub place : HasPossiblePlace c f
  pub batches : HasPossibleBatches c next f
