-- The search for a placement: what is tried, and what it finds.
use Rattle.std.specs.Prelude.{◌≡◌, ℕ, ◌+◌, ◌<◌, ◌≤◌, ◌*◌, ◌/◌, ◌%◌, List, [], ◌∷◌, take, length, get_or}
use Rattle.std.specs.List.{AllByRecursion}
use Rattle.minislots.specs.declared.config.Config.{Config}
use Rattle.sched_calls.specs.declared.spec.FlowSpec.{FlowSpec}
use Rattle.sched_calls.specs.FlowSpec.{interval_frames, jitter_slots, periodic_slots, grants_of}
use Rattle.periodic.specs.declared.TheConstants.{MAX_SPOTS}
use Rattle.periodic.specs.declared.bits.Bits.{Bits}
use Rattle.periodic.specs.declared.search.Wanted.{Wanted}
use Rattle.periodic.specs.declared.row.Row.{Row}
use Rattle.periodic.specs.declared.search.Found.{Found}
use Rattle.periodic.specs.Bits.{IsClear}
use Rattle.periodic.specs.Rows.{row_at}
use Rattle.periodic.specs.Placement.{group_at, FollowFrom}

-- What is looked for has an interval that divides the cycle, some grants, is not empty and fits behind the request
-- region
pub record CanBeSought (c : Config) (w : Wanted) : Type 0 where
  pub interval_positive : 0 < w.interval
  pub divides : c.cycle % w.interval ≡ 0
  pub not_empty : 0 < w.slots
  pub slots_most : w.slots ≤ 1024
  pub grants_positive : 0 < w.grants
  pub grants_most : w.grants ≤ 8
  pub fits : w.slots + c.req_slots ≤ c.frame

-- What is looked for is what these parameters say
pub record IsWantedOf (c : Config) (spec : FlowSpec) (w : Wanted) : Type 0 where
  pub interval : w.interval ≡ interval_frames c spec
  pub jitter : w.jitter ≡ jitter_slots c spec
  pub slots : w.slots ≡ periodic_slots c spec
  pub grants : w.grants ≡ grants_of spec

-- A start with so many free minislots behind it in a frame of this length
pub record IsFreeStart (words : List ℕ) (frame slots from start : ℕ) : Type 0 where
  pub after : from ≤ start
  pub within : start + slots ≤ frame
  pub clear : IsClear words start slots

-- The first of these
pub record IsNextStart (words : List ℕ) (frame slots from start : ℕ) : Type 0 where
  pub free : IsFreeStart words frame slots from start
  pub least : (other : ℕ) → IsFreeStart words frame slots from other → start ≤ other

-- A start within the jitter after an offset
pub record IsStartOf (c : Config) (w : Wanted) (offset : ℕ) (words : List ℕ) (start : ℕ) : Type 0 where
  pub free : IsFreeStart words c.frame w.slots offset start
  pub within_jitter : start ≤ offset + w.jitter

-- As many starts in a frame as are wanted, one after the other
pub record AreStartsIn (c : Config) (w : Wanted) (offset : ℕ) (words starts : List ℕ) : Type 0 where
  pub count : length starts ≡ w.grants
  pub in_turn : FollowFrom w.slots offset starts
  pub each : AllByRecursion (IsStartOf c w offset words) starts

-- each start is the first free one behind those before it, from this minislot on
abbrev pub AreNextStarts : List ℕ → ℕ → ℕ → ℕ → List ℕ → Type 0
AreNextStarts words frame slots from [] = Unit {0}
AreNextStarts words frame slots from (start ∷ starts) =
    IsNextStart words frame slots from start × AreNextStarts words frame slots (start + slots) starts

-- each start is at or before the other's in its turn
abbrev pub AreNoLater : List ℕ → List ℕ → Type 0
AreNoLater [] others = Unit {0}
AreNoLater (start ∷ starts) [] = ⊥
AreNoLater (start ∷ starts) (other ∷ others) = (start ≤ other) × AreNoLater starts others

-- The first of all such starts in a frame
pub record AreFirstIn (c : Config) (w : Wanted) (offset : ℕ) (words starts : List ℕ) : Type 0 where
  pub lawful : AreStartsIn c w offset words starts
  pub least : (others : List ℕ) → AreStartsIn c w offset words others → AreNoLater starts others

-- The next offset at which P may hold: it does at none from here up to that one
pub record IsNextOffset (c : Config) (P : ℕ → Type 0) (offset next : ℕ) : Type 0 where
  pub later : offset < next
  pub most : next ≤ c.frame
  pub none : (between : ℕ) → offset ≤ between → between < next → P between → ⊥

-- the offsets at which a frame has starts
abbrev pub HasStartsAt : Config → Wanted → List ℕ → ℕ → Type 0
HasStartsAt c w words offset = (starts : List ℕ) × AreStartsIn c w offset words starts

-- Lawful starts at a phase and an offset, in each nominal frame of the cycle
pub record AreStarts (c : Config) (rows : List Bits) (w : Wanted) (phase offset : ℕ) (starts : List ℕ) : Type 0 where
  pub count : length starts ≡ c.cycle / w.interval * w.grants
  pub each : (index : ℕ) → index < c.cycle / w.interval
      → AreStartsIn c w offset (row_at c rows (phase + index * w.interval)) (group_at w.grants index starts)

-- the offsets at which all frames of a phase have starts
abbrev pub HaveStartsAt : Config → List Bits → Wanted → ℕ → ℕ → Type 0
HaveStartsAt c rows w phase offset = (starts : List ℕ) × AreStarts c rows w phase offset starts

-- no starts are lawful at this phase and offset
abbrev pub NoStarts : Config → List Bits → Wanted → ℕ → ℕ → Type 0
NoStarts c rows w phase offset = (starts : List ℕ) → AreStarts c rows w phase offset starts → ⊥

-- nor at any offset of this phase below this one
abbrev pub NoneBelow : Config → List Bits → Wanted → ℕ → ℕ → Type 0
NoneBelow c rows w phase below = (offset : ℕ) → c.req_slots ≤ offset → offset < below → NoStarts c rows w phase offset

-- each frame of a phase may have the starts that are wanted beside those counted there
abbrev pub HasRoomAt : Config → List ℕ → Wanted → ℕ → Type 0
HasRoomAt c counts w phase = (index : ℕ) → index < c.cycle / w.interval
    → get_or counts (phase + index * w.interval) 0 + w.grants ≤ MAX_SPOTS

-- nor at any phase below this one whose frames may have them
abbrev pub NonePhase : Config → List Bits → List ℕ → Wanted → ℕ → Type 0
NonePhase c rows counts w below =
    (phase : ℕ) → phase < below → HasRoomAt c counts w phase → NoneBelow c rows w phase c.frame

-- the starts of a row
abbrev pub starts_of : Row → List ℕ
starts_of row = take row.count row.starts

-- The first lawful starts in all frames
pub record AreFirstStarts (c : Config) (rows : List Bits) (w : Wanted) (phase offset : ℕ)
    (starts : List ℕ) : Type 0 where
  pub lawful : AreStarts c rows w phase offset starts
  pub least : (others : List ℕ) → AreStarts c rows w phase offset others → (index : ℕ) → index < c.cycle / w.interval
      → AreNoLater (group_at w.grants index starts) (group_at w.grants index others)

-- The first lawful starts at the least offset of a phase
pub record IsFirstAtPhase (c : Config) (rows : List Bits) (w : Wanted) (f : Found) (starts : List ℕ) : Type 0 where
  pub after_requests : c.req_slots ≤ f.offset
  pub within : f.offset < c.frame
  pub first : AreFirstStarts c rows w f.phase f.offset starts
  pub before : NoneBelow c rows w f.phase f.offset

-- The first lawful starts at the least offset of the least phase whose frames may have them
pub record IsFirstFound (c : Config) (rows : List Bits) (counts : List ℕ) (w : Wanted) (f : Found)
    (starts : List ℕ) : Type 0 where
  pub phase_within : f.phase < w.interval
  pub room : HasRoomAt c counts w f.phase
  pub at_phase : IsFirstAtPhase c rows w f starts
  pub before : NonePhase c rows counts w f.phase

-- The first nominal time at or after next, at a phase and an offset
pub record IsReference (c : Config) (interval next phase offset reference : ℕ) : Type 0 where
  pub not_before : next ≤ reference
  pub first : reference < next + interval * c.frame
  pub phase_is : reference / c.frame % interval ≡ phase
  pub offset_is : reference % c.frame ≡ offset
