-- The flows that wait for bytes, in the order in which they are served.
use Rattle.std.specs.Prelude.{◌≡◌, ◌≢◌, ℕ, ◌<◌, ◌⊎◌, Bool, true, List, [], ◌∷◌, Some, option_map, slice_get, map}
use Rattle.std.specs.Prelude.{◌+◌, ◌-◌, ◌≤◌, false, ◌||◌, ◌==◌, nat_le, nat_lt, insert, remove, filter, take, length, slice_index_or}
use Rattle.std.specs.Prelude.{if◌then◌else◌}
use Rattle.std.specs.List.{AllByRecursion}
use Rattle.minislots.specs.declared.config.Config.{Config}
use Rattle.flow_book.specs.declared.flow.Flow.{Flow}
use Rattle.flow_book.specs.declared.waiting.Waiting.{Waiting}
use Rattle.flow_book.specs.Flows.{outstanding}
use Rattle.flow_book.specs.declared.tiers.Tier.{Tier}
use Rattle.flow_book.specs.declared.tiers.TheConstants.{NO_TIER}
use Rattle.flow_book.specs.Bucket.{BucketView}
use Rattle.flow_book.specs.Choice.{HasStartedBy, IsEligible}
use Rattle.flow_book.specs.Tiers.{HasTier, turn_at, queue_limits}
use Rattle.flow_book.specs.Entry.{live, is_plain, IsBook}
use Rattle.flow_book.specs.Numbers.{LineView, IsLineOf}
use Rattle.sched_calls.specs.Sids.{AscendBy, put_in}

-- a flow's turn, the bytes that it waits for, what its maximum sustained rate leaves to it in the queue, and whether it
-- has neither a peak rate nor a reservation
abbrev pub entry_of : Flow → ℕ × ℕ × BucketView × Bool
entry_of f = (f.turn, outstanding (live f), (queue_limits f).sustained, is_plain f)

-- there is a flow at its place, and these are its turn, the bytes that it waits for, what its maximum sustained rate
-- leaves to it in the queue, and whether it has neither a peak rate nor a reservation
abbrev pub IsAt : List Flow → Waiting → Type 0
IsAt items w =
    option_map entry_of (slice_get items w.place) ≡ Some (w.turn, w.wants, w.sustained, w.tier == NO_TIER)

-- the place is one of those in the queue
abbrev pub IsIn : ℕ → List Waiting → Type 0
IsIn place [] = ⊥
IsIn place (w ∷ queue) = (w.place ≡ place) ⊎ IsIn place queue

-- Of the flows at some places all that wait are in the queue, by their turns, and none from another place
pub record IsQueueAmong (items : List Flow) (some : ℕ → Type 0) (queue : List Waiting) : Type 0 where
  pub ascending : AscendBy (λ w. w.turn) queue
  pub each : AllByRecursion (IsAt items) queue
  pub among : AllByRecursion (λ w. some w.place) queue
  pub whole : (place : ℕ) (f : Flow) → slice_get items place ≡ Some f → some place → 0 < outstanding (live f)
      → IsIn place queue

-- all flows that wait are in the queue, by their turns
abbrev pub IsQueue : List Flow → List Waiting → Type 0
IsQueue items queue = IsQueueAmong items (λ place. Unit {0}) queue

-- one of the queue waits for bytes
abbrev pub still_waits : Waiting → Bool
still_waits w = nat_lt 0 w.wants

-- All that wait are in one of the two parts, each by their turns: those that a MAP served, and those of the queue
-- that still wait and were not served
pub record IsQueueIn (items : List Flow) (queue served : List Waiting) : Type 0 where
  pub served_ones : IsQueueAmong items (λ place. IsIn place served) served
  pub others : IsQueueAmong items (λ place. IsIn place served → ⊥) (filter still_waits queue)

-- no two of them are at one place
abbrev pub AreOnce : List Waiting → Type 0
AreOnce [] = Unit {0}
AreOnce (w ∷ ws) = AllByRecursion (λ v. v.place ≢ w.place) ws × AreOnce ws

-- Those of a queue that still wait are all that wait, by their turns; the others want nothing any more, and stand where
-- they were served
pub record IsShortQueue (items : List Flow) (queue : List Waiting) : Type 0 where
  pub waiting : IsQueue items (filter still_waits queue)
  pub each : AllByRecursion (IsAt items) queue
  pub once : AreOnce queue

-- all that wait are in the queue, or where many do in the two parts
abbrev pub IsOrderIn : Bool → List Flow → List Waiting → List Waiting → Type 0
IsOrderIn true items queue served = IsQueueIn items queue served
IsOrderIn false items queue served = IsShortQueue items queue × (served ≡ [])

-- a queue in the form of its length
abbrev pub all_of : Bool → List Waiting → List Waiting → List Waiting
all_of true few many = many
all_of false few many = few

-- those that a MAP served are some of the queue, or where many wait they stand by themselves
abbrev pub served_of : Bool → List Waiting → List Waiting → List Waiting
served_of true queue served = served
served_of false queue served = queue

-- where many wait each of the queue that still does has room among those served
abbrev pub HasRoom : Bool → List Waiting → List Waiting → ℕ → Type 0
HasRoom is_long queue served capacity =
    is_long ≡ true → length served + length (filter still_waits queue) ≤ capacity

-- the turn of one is no later than this one, or it wants nothing
abbrev pub is_passed : ℕ → Waiting → Bool
is_passed turn w = nat_le w.turn turn || w.wants == 0

-- Of a list the one at its first place has come to this one, where nothing is written yet: it passes those before it
pub record HasPassed (first : ℕ) (old new : List Waiting) (turn at : ℕ) : Type 0 where
  pub within : at < length new
  pub behind : first ≤ at
  pub left : remove new at ≡ remove old first
  pub before : (k : ℕ) (d : Waiting) → k < at → is_passed turn (slice_index_or new k d) ≡ true

-- The one at a place of the queue stands no earlier in it now: in its turn among those that still wait, where it does
pub record StandsBehind (index : ℕ) (w : Waiting) (old new : List Waiting) : Type 0 where
  pub at : ℕ
  pub behind : index ≤ at
  pub within : at ≤ length (remove old index)
  pub is : new ≡ insert (remove old index) at w
  pub still : filter still_waits new ≡ (if still_waits w then put_in (λ v. v.turn) w (filter still_waits
      (remove old index)) else filter still_waits (remove old index))

-- One was moved to its turn among those of the other places
pub record IsMoved (items : List Flow) (w : Waiting) (queue : List Waiting) : Type 0 where
  pub others : List Waiting
  pub among : IsQueueAmong items (λ other. other ≢ w.place) others
  pub is : queue ≡ put_in (λ v. v.turn) w others

-- none before this place in the queue wants anything
abbrev pub NoneWaitsBefore : ℕ → List Waiting → Type 0
NoneWaitsBefore first queue = AllByRecursion (λ w. w.wants ≡ 0) (take first queue)

-- The flows are a book's, those of a list that still wait are of its flows, by their turns, with their tiers, and all
-- grants have started by this minislot
pub record HasStartedPart (c : Config) (items : List Flow) (tiers : List Tier) (queue : List Waiting) (start : ℕ) : Type 0
  where
    pub book : IsBook c items
    pub ascending : AscendBy (λ w. w.turn) (filter still_waits queue)
    pub each : AllByRecursion (IsAt items) (filter still_waits queue)
    pub tiered : AllByRecursion (HasTier items tiers) (filter still_waits queue)
    pub started : AllByRecursion (HasStartedBy start) (map live items)

-- its flow may not be served
abbrev pub IsPassed : Config → ℕ → ℕ → List Flow → Waiting → Type 0
IsPassed c start room items w =
    (f : Flow) → slice_get items w.place ≡ Some f → IsEligible c start room (live f) → ⊥

-- its flow may not be served, or its turn at the minislot is no earlier than this one
abbrev pub IsNoSooner : Config → List Tier → ℕ → ℕ → List Flow → ℕ → Waiting → Type 0
IsNoSooner c tiers start room items turn w = IsPassed c start room items w ⊎ (turn ≤ turn_at c tiers start w)

-- one of a list that still waits and may be served stands here
pub record IsAble (c : Config) (items : List Flow) (queue : List Waiting) (start room index : ℕ) : Type 0 where
  pub waiting : Waiting
  pub here : slice_get queue index ≡ Some waiting
  pub waits : still_waits waiting ≡ true
  pub flow : Flow
  pub at : slice_get items waiting.place ≡ Some flow
  pub may : IsEligible c start room (live flow)

-- and none before it may be served
pub record IsFirstAble (c : Config) (items : List Flow) (queue : List Waiting) (start room index : ℕ) : Type 0 where
  pub able : IsAble c items queue start room index
  pub passed : AllByRecursion (IsPassed c start room items) (filter still_waits (take index queue))

-- with this turn at the minislot, and each of some of them that may be served is no earlier there
pub record IsSoonest (c : Config) (items : List Flow) (tiers : List Tier) (some queue : List Waiting)
    (start room index turn : ℕ) : Type 0 where
  pub able : IsAble c items queue start room index
  pub is : turn ≡ turn_at c tiers start able.waiting
  pub first : AllByRecursion (IsNoSooner c tiers start room items turn) (filter still_waits some)

-- its place is one more where a flow was put in at this place or before it
abbrev pub moved_up : ℕ → Waiting → Waiting
moved_up place w = record w { place = if nat_le place w.place then w.place + 1 else w.place }

-- its place is one less where a flow was taken out before it
abbrev pub moved_down : ℕ → Waiting → Waiting
moved_down place w = record w { place = if nat_lt place w.place then w.place - 1 else w.place }

-- the flows are the same at each other place
abbrev pub AreSameBut : ℕ → List Flow → List Flow → Type 0
AreSameBut place old new = (other : ℕ) → other ≢ place → slice_get new other ≡ slice_get old other

-- What is true of every book: its flows are a book's, where it is known to have a queue that is theirs, and its line is
-- theirs
pub record IsQueuedBook (c : Config) (items : List Flow) (queue : List Waiting) (is_queued : Bool) (line : LineView)
    : Type 0 where
  pub book : IsBook c items
  pub order : is_queued ≡ true → IsQueue items queue
  pub lined : IsLineOf (map live items) line
