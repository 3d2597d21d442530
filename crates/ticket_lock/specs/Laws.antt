-- What holds of every table under the lock's rule, and which event of the core each step of the table is.
use Rattle.std.specs.Prelude.{◌≡◌, ℕ, ◌+◌, ◌%◌, ◌^◌, List, [], ◌∷◌, ◌++◌, Option, Some, slice_index}
use mathlib.Core.Option.{some, none}
use lib.ListN.{get_elem?}
use Rattle.atomic_table.specs.Table as table
use Rattle.atomic_table.specs.Table.{State, Me, Act, Valid, keeps, takes, gives, carried_after, stepped, step}
use Rattle.minislots.specs.declared.stamp.Stamp.{Stamp}
use Rattle.ticket_core.specs.declared.SeatState.TheVariants.{Idle, Waiting, Holding}
use Rattle.ticket_core.specs.declared.Step.{Step}
use Rattle.ticket_core.specs.declared.Step.TheVariants.{Draw, Look, Enter, Leave}
use Rattle.ticket_core.specs.LockWorld.{LockWorld, world_after, Holds}
use Rattle.ticket_lock.specs.declared.board.About.{About}
use Rattle.ticket_lock.specs.declared.board.Logged.{Logged}
use Rattle.ticket_lock.specs.declared.board.Part.{Part}
use Rattle.ticket_lock.specs.declared.board.View.{View}
use Rattle.ticket_lock.specs.Row.{place_of}
use Rattle.ticket_lock.specs.Rule.{IsJournal, Stands}
use Rattle.ticket_lock.specs.Plays.{drawn_view, looked_view, entered_view, left_view, IsAdded, MayPut}

-- from one state to another by a step of this seat at this word. `Allows`, which the table asks of each step, is that
-- there is one from every state: a new view and an act that keep the rule, of which the seat is told this
pub record StepsTo {S V : Type 0} (holds : State S V → Type 0) (id : ℕ) (me : Me S V) (word : ℕ) (f : ℕ → ℕ)
    (told : ℕ → Me S V → Type 0) (s after : State S V) : Type 0 where
  pub before : holds s
  pub mine : get_elem? s.views id ≡ some me.0
  pub view : V
  pub act : Act S
  pub valid : Valid s.homes me.1 act
  pub after_is : after ≡ stepped s word (f (slice_index s.words word)) id me.1 view act
  pub kept : holds after
  pub is_told : told (slice_index s.words word) (view, carried_after me.1 act)

module _ {T H E : Type 0} (head : T → H) (entries : T → List E) (stamp : E → Stamp) where
  -- at most one seat holds, and the value is out of its slot exactly while one does
  pub record HasOneHolder (a : About H E) (w : LockWorld) (log : List (Logged E))
      (s : State (Option T) (View H E)) : Type 0 where
    pub one : (i j t u : ℕ) → Holds w i t → Holds w j u → i ≡ j
    pub out : (i t : ℕ) → Holds w i t → s.homes ≡ none ∷ []
    pub home : ((i t : ℕ) → Holds w i t → ⊥) → (x : T) × (s.homes ≡ some (Some x) ∷ []) × IsJournal head entries a log x

  -- a table in this state stands for a world with at most one holder, and two seats at it that hold are one
  pub record RunsWithOneHolder (a : About H E) (s : State (Option T) (View H E)) : Type 0 where
    pub world : LockWorld
    pub log : List (Logged E)
    pub stands : Stands head entries stamp a world log s
    pub holder : HasOneHolder a world log s
    pub seats : (i j t u : ℕ) (v z : View H E) (p q : Part E) → get_elem? s.views i ≡ some v
        → get_elem? s.views j ≡ some z
        → v.parts ≡ p ∷ [] → z.parts ≡ q ∷ [] → v.state ≡ Holding t → z.state ≡ Holding u → i ≡ j

  -- each step of a seat with one number on a table under the rule is its event of the core, and the log is the
  -- same, or one more
  pub record FollowsTheCore (a : About H E) (w : LockWorld) (log : List (Logged E)) (s : State (Option T) (View H E))
      (id : ℕ) (v : View H E) (p : Part E) : Type 0 where
    pub draw : v.state ≡ Idle
        → (after : LockWorld) × (world_after w p.number Draw ≡ Some after)
        × Stands head entries stamp a after log
        (stepped s 0 ((slice_index s.words 0 + 1) % 2 ^ 64) id [] (drawn_view v w.next) keeps)
    pub look : (t : ℕ) → v.state ≡ Waiting t → ¬ (slice_index s.words (place_of t) ≡ t % 2 ^ 64)
        → (world_after w p.number Look ≡ Some w)
        × Stands head entries stamp a w log
        (stepped s (place_of t) (slice_index s.words (place_of t)) id [] (looked_view v) keeps)
    pub enter : (t : ℕ) → v.state ≡ Waiting t → slice_index s.words (place_of t) ≡ t % 2 ^ 64
        → (more : List (Logged E)) × (log ≡ p.log ++ more) × (after : LockWorld)
        × (world_after w p.number Enter ≡ Some after)
        × (x : T) × (s.homes ≡ some (Some x) ∷ [])
        × Stands head entries stamp a after log
        (stepped s (place_of t) (slice_index s.words (place_of t)) id [] (entered_view v p t more) (takes 0 (Some x)))
    pub leave : (t : ℕ) (x : T) → v.state ≡ Holding t → MayPut stamp head entries v.about p t x
        → (more : List (Logged E)) × IsAdded stamp p.number t more × (after : LockWorld)
        × (world_after w p.number Leave ≡ Some after)
        × Stands head entries stamp a after (log ++ more)
        (stepped s (place_of (t + 1)) ((t + 1) % 2 ^ 64) id ((0, Some x) ∷ []) (left_view v p more) gives)

  -- a step from the first state to the second is this event of this seat in the core, whatever worlds they stand for
  abbrev pub IsEvent : About H E → ℕ → Step → State (Option T) (View H E) → State (Option T) (View H E) → Type 0
  IsEvent a number event s after = (w now : LockWorld) (log grown : List (Logged E))
      → Stands head entries stamp a w log s
      → Stands head entries stamp a now grown after → world_after w number event ≡ Some now

  -- each step that a table with this rule lets a seat with one number take by these plays is its event of the core:
  -- the fetch-and-add on `next` its draw, the load of its ticket's word its look or its entry, the store of the next
  -- ticket into that one's word its leave
  pub record RunsTheCore (a : About H E) (holds : State (Option T) (View H E) → Type 0)
      (drawn looked left : table.Step (Option T) → Me (Option T) (View H E) → ℕ → Me (Option T) (View H E) → Type 0)
      : Type 0 where
    pub draw : (id : ℕ) (v : View H E) (p : Part E) (s after : State (Option T) (View H E)) → v.parts ≡ p ∷ []
        → v.state ≡ Idle
        → StepsTo holds id (v, []) 0 (λ n. (n + 1) % 2 ^ 64) (drawn (step 1 0 1 0 none) (v, [])) s after
        → IsEvent a p.number Draw s after
    pub look : (id t : ℕ) (v : View H E) (p : Part E) (s after : State (Option T) (View H E)) → v.parts ≡ p ∷ []
        → v.state ≡ Waiting t
        → StepsTo holds id (v, []) (place_of t) (λ n. n) (looked (step 1 (place_of t) 0 0 none) (v, [])) s after
        → ¬ (slice_index s.words (place_of t) ≡ t % 2 ^ 64) → IsEvent a p.number Look s after
    pub enter : (id t : ℕ) (v : View H E) (p : Part E) (s after : State (Option T) (View H E)) → v.parts ≡ p ∷ []
        → v.state ≡ Waiting t
        → StepsTo holds id (v, []) (place_of t) (λ n. n) (looked (step 1 (place_of t) 0 0 none) (v, [])) s after
        → slice_index s.words (place_of t) ≡ t % 2 ^ 64 → IsEvent a p.number Enter s after
    pub leave : (id t : ℕ) (v : View H E) (p : Part E) (x : T) (s after : State (Option T) (View H E))
        → v.parts ≡ p ∷ []
        → v.state ≡ Holding t
        → StepsTo holds id (v, (0, Some x) ∷ []) (place_of (t + 1)) (λ n. (t + 1) % 2 ^ 64)
        (λ n. left (step 1 (place_of (t + 1)) ((t + 1) % 2 ^ 64) 0 none) (v, (0, Some x) ∷ []) ((t + 1) % 2 ^ 64))
        s after
        → IsEvent a p.number Leave s after
