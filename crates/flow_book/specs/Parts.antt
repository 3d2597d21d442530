-- The queue while a MAP is planned, where many wait in two parts: those that it served, and the others.
use Rattle.std.specs.Prelude.{◌≡◌, ◌≢◌, ℕ, ◌≤◌, ◌⊎◌, Bool, true, false, List, [], filter, map, Option, None, Some, option_map, nat_lt}
use Rattle.std.specs.Prelude.{◌+◌, min, IfSome, slice_get, length, drop, insert, if◌then◌else◌}
use Rattle.std.specs.List.{AllByRecursion}
use Rattle.minislots.specs.declared.config.Config.{Config}
use Rattle.flow_book.specs.declared.flow.Flow.{Flow}
use Rattle.flow_book.specs.declared.waiting.Waiting.{Waiting}
use Rattle.flow_book.specs.declared.tiers.Tier.{Tier}
use Rattle.flow_book.specs.declared.parts.Standing.{Standing}
use Rattle.flow_book.specs.declared.soonest.Able.{Able}
use Rattle.flow_book.specs.declared.parts.Standing.TheVariants.{Queued, Served}
use Rattle.flow_book.specs.Choice.{HasStartedBy, IsNext}
use Rattle.flow_book.specs.Limits.{most_with, HaveOneMore, StaySettled}
use Rattle.flow_book.specs.Entry.{live, IsBook, IsTurn}
use Rattle.sched_calls.specs.Sids.{put_in}
use Rattle.flow_book.specs.Queue.{IsAt, IsIn, IsQueueAmong, IsQueueIn, AreOnce, still_waits}
use Rattle.flow_book.specs.Tiers.{HasTier, IsSpent, limits_in}

-- the one that stands there
abbrev pub one_at : Standing → List Waiting → List Waiting → Option Waiting
one_at (Queued index) queue served = slice_get queue index
one_at (Served index) queue served = slice_get served index

-- The flows are a book's and the two parts are theirs, with their tiers, and all their grants have started by this
-- minislot
pub record HasStartedIn (c : Config) (items : List Flow) (tiers : List Tier) (queue served : List Waiting) (start : ℕ)
    : Type 0 where
  pub book : IsBook c items
  pub order : IsQueueIn items queue served
  pub ones : AllByRecursion (HasTier items tiers) served
  pub others : AllByRecursion (HasTier items tiers) (filter still_waits queue)
  pub started : AllByRecursion (HasStartedBy start) (map live items)

-- those from this place on come no earlier than the one of the queue: where there is none, none stand there
abbrev pub IsAheadOf : List Waiting → ℕ → Option Able → Type 0
IsAheadOf served ahead None = ahead ≡ length served
IsAheadOf served ahead (Some able) = AllByRecursion (λ v. able.turn ≤ v.turn) (drop ahead served)

-- one has a turn before this one
abbrev pub is_sooner : ℕ → Option Able → Bool
is_sooner turn None = false
is_sooner turn (Some able) = nat_lt able.turn turn

-- where the one stands that comes first of one of the queue and one of those served, which is that of the queue only
-- where its turn is before the other's
abbrev pub sooner_of : Option Able → Option Able → Option Standing
sooner_of queued None = option_map (λ able. Queued able.index) queued
sooner_of queued (Some ahead) =
    if is_sooner ahead.turn queued then option_map (λ able. Queued able.index) queued else Some (Served ahead.index)

-- the flow that is served first, in so many minislots, stands here and still waits
pub record IsNextIn (c : Config) (items : List Flow) (queue served : List Waiting) (start room : ℕ) (at : Standing)
    : Type 0 where
  pub waiting : Waiting
  pub here : one_at at queue served ≡ Some waiting
  pub waits : still_waits waiting ≡ true
  pub flow : Flow
  pub stands : slice_get items waiting.place ≡ Some flow
  pub next : IsNext c (map live items) start room (live flow)

-- One was put in its turn among those served before, and of the queue the others are left that still wait
pub record IsPutIn (items : List Flow) (w : Waiting) (queue served queue_after served_after : List Waiting) : Type 0
  where
    pub left : List Waiting
    pub among : IsQueueAmong items (λ place. IsIn place left) left
    pub out : IsIn w.place left → ⊥
    pub stay : (place : ℕ) → IsIn place served → (place ≡ w.place) ⊎ IsIn place left
    pub others : IsQueueAmong items (λ place. (IsIn place left → ⊥) × (place ≢ w.place)) (filter still_waits queue_after)
    pub tiered : (tiers : List Tier) → AllByRecursion (HasTier items tiers) served
        → AllByRecursion (HasTier items tiers) left
    pub others_tiered : (tiers : List Tier) → AllByRecursion (HasTier items tiers) (filter still_waits queue)
        → AllByRecursion (HasTier items tiers) (filter still_waits queue_after)
    pub is : served_after ≡ put_in (λ v. v.turn) w left

-- One was put among the others of the queue before, in its turn where it still waits
pub record IsPutBack (items : List Flow) (w : Waiting) (queue queue_after : List Waiting) : Type 0 where
  pub others : List Waiting
  pub each : AllByRecursion (IsAt items) others
  pub tiered : (tiers : List Tier) → AllByRecursion (HasTier items tiers) queue
      → AllByRecursion (HasTier items tiers) others
  pub once : AreOnce others
  pub new : AllByRecursion (λ v. v.place ≢ w.place) others
  pub among : IsQueueAmong items (λ other. other ≢ w.place) (filter still_waits others)
  pub stay : (place : ℕ) → IsIn place queue → (place ≡ w.place) ⊎ IsIn place others
  pub at : ℕ
  pub within : at ≤ length others
  pub is : queue_after ≡ insert others at w
  pub still : filter still_waits queue_after ≡ (if still_waits w then put_in (λ v. v.turn) w (filter still_waits others)
      else filter still_waits others)

-- one was put in its turn among those served, where many wait, and else in the queue
abbrev pub IsPut : Bool → List Flow → Waiting → List Waiting → List Waiting → List Waiting → List Waiting → Type 0
IsPut true items w queue served queue_after served_after = IsPutIn items w queue served queue_after served_after
IsPut false items w queue served queue_after served_after = IsPutBack items w queue queue_after × (served_after ≡ [])

-- One that waited was granted so many bytes at this minislot, the most that it may have of so many, and this is its SID
pub record IsGranted (quantum : ℕ) (tiers after : List Tier) (w new : Waiting) (start most sid bytes : ℕ) : Type 0 where
  pub amount : bytes ≡ most_with (limits_in tiers w) start (min w.wants quantum) (min w.wants most)
  pub wants : new.wants + bytes ≡ w.wants
  pub place : new.place ≡ w.place
  pub limits : HaveOneMore (limits_in tiers w) (limits_in after new) start (min w.wants quantum) bytes
  pub settled : StaySettled (limits_in tiers w) (limits_in after new) start (min w.wants quantum) bytes
  pub tier : IsSpent tiers after w new
  pub turn : (rank : ℕ) (last : Option ℕ) (sid : ℕ) → IsTurn rank last sid w.turn → IsTurn rank (Some start) sid new.turn
  pub later : (rank : ℕ) (last : Option ℕ) (sid : ℕ) → IsTurn rank last sid w.turn → IfSome last (λ m. m ≤ start)
      → w.turn ≤ new.turn
  pub is : (rank : ℕ) (last : Option ℕ) (other : ℕ) → IsTurn rank last other new.turn → sid ≡ other

-- The flow that is served first, in so many minislots, was granted the most that it may have of so many bytes, and was
-- put where it stands from now on
pub record IsServedFirst (c : Config) (is_long : Bool) (items : List Flow) (tiers after : List Tier)
    (queue served queue_after served_after : List Waiting) (start room most sid bytes : ℕ) : Type 0 where
  pub at : Standing
  pub waiting : Waiting
  pub new : Waiting
  pub here : one_at at queue served ≡ Some waiting
  pub next : IsNextIn c items queue served start room at
  pub granted : IsGranted c.quantum tiers after waiting new start most sid bytes
  pub put : IsPut is_long items new queue served queue_after served_after
