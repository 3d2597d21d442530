-- The rule of the lock's table: which world of whole tickets its words, its slot and its seats' views stand for.
use Rattle.std.specs.Prelude.{◌≡◌, ◌≢◌, ℕ, zero, suc, ◌+◌, ◌%◌, ◌^◌, ◌<◌, ◌≤◌, List, [], ◌∷◌, ◌++◌, map, length, sum_by}
use Rattle.std.specs.Prelude.{Option, Some}
use Rattle.std.specs.Prelude.{None, ◌==◌, nat_lt, if◌then◌else◌}
use mathlib.Core.Option.{some, none}
use lib.ListN.{get_elem?}
use Rattle.atomic_table.specs.Table.{State}
use Rattle.minislots.specs.declared.stamp.Stamp.{Stamp}
use Rattle.ticket_core.specs.declared.SeatState.{SeatState}
use Rattle.ticket_core.specs.declared.SeatState.TheVariants.{Idle, Holding}
use Rattle.ticket_core.specs.LockWorld.{LockWorld, state_of, Holds, IsLawful}
use Rattle.ticket_lock.specs.declared.board.About.{About}
use Rattle.ticket_lock.specs.declared.board.Logged.{Logged}
use Rattle.ticket_lock.specs.declared.board.Part.{Part}
use Rattle.ticket_lock.specs.declared.board.View.{View}
use Rattle.ticket_lock.specs.declared.board.Key.{Key}
use Rattle.ticket_lock.specs.Row.{WordsStand}

-- the fact holds of each member
abbrev pub Every : {X : Type 0} → (X → Type 0) → List X → Type 0
Every P [] = Unit {0}
Every P (x ∷ xs) = P x × Every P xs

-- the first member of a list, if any
abbrev pub first_in_list : {X : Type 0} → List X → Option X
first_in_list [] = None
first_in_list (x ∷ xs) = Some x

-- the head in what a lock is about
abbrev pub head_in : {H E : Type 0} → Option (About H E) → Option H
head_in None = None
head_in (Some a) = first_in_list a.head

-- the entry of a logged one
abbrev pub entry_of : {E : Type 0} → Logged E → E
entry_of x = x.entry

-- the whole tickets ascend strictly from the first bound to below the last
abbrev pub Ascends : {E : Type 0} → ℕ → List (Logged E) → ℕ → Type 0
Ascends from [] below = from ≤ below
Ascends from (x ∷ xs) below = (from ≤ x.ticket) × Ascends (x.ticket + 1) xs below

-- 1 where the first number is below the second, else 0
abbrev pub once_below : ℕ → ℕ → ℕ
once_below k n = if nat_lt k n then 1 else 0

-- how many of these parts have this number
abbrev pub owns_of : {E : Type 0} → ℕ → List (Part E) → ℕ
owns_of k [] = 0
owns_of k (p ∷ ps) = (if p.number == k then 1 else 0) + owns_of k ps

-- how many turns these parts have ended
abbrev pub ended_by : {E : Type 0} → List (Part E) → ℕ
ended_by [] = 0
ended_by (p ∷ ps) = p.turns + ended_by ps

-- parts with nothing seen and no turn ended, numbered from the first on
abbrev pub new_parts : {E : Type 0} → ℕ → ℕ → List (Part E)
new_parts number zero = []
new_parts number (suc n) = record { number = number; log = []; turns = 0 } ∷ new_parts (number + 1) n

module _ {H E : Type 0} where
  -- how many parts of a view have this number
  abbrev pub owns : ℕ → View H E → ℕ
  owns k v = owns_of k v.parts

  -- how many parts a view has
  abbrev pub width : View H E → ℕ
  width v = length v.parts

  -- how many draws a seat has made
  abbrev pub draws_of : View H E → ℕ
  draws_of v = v.draws

  -- how many times a seat has left: once for each turn that its parts have ended
  abbrev pub leaves_of : View H E → ℕ
  leaves_of v = ended_by v.parts

  -- the view of an idle seat with these parts that has made no step
  abbrev pub idle_view : Option (About H E) → List (Part E) → View H E
  idle_view about parts = record { about = about; parts = parts; state = Idle; draws = 0; looks = 0 }

  -- the view of the opening seat, which has every number
  abbrev pub first_view : About H E → View H E
  first_view a = idle_view (Some a) (new_parts 0 a.seats)

-- these entries are of other seats than this one
abbrev pub IsOfOthers : {E : Type 0} → (E → Stamp) → ℕ → List (Logged E) → Type 0
IsOfOthers stamp number log = Every (λ x. (stamp x.entry).seat ≢ number) log

-- the log is what was seen, and then entries of other seats than this one
abbrev pub Extends : {E : Type 0} → (E → Stamp) → ℕ → List (Logged E) → List (Logged E) → Type 0
Extends {E} stamp number seen log = (more : List (Logged E)) × (log ≡ seen ++ more) × IsOfOthers stamp number more

-- the stamp has the whole ticket modulo 2^64, and a seat that exists
abbrev pub IsStamped : {E : Type 0} → (E → Stamp) → ℕ → Logged E → Type 0
IsStamped stamp seats x = ((stamp x.entry).ticket ≡ x.ticket % 2 ^ 64) × ((stamp x.entry).seat < seats)

-- the tickets of a log ascend strictly from the first one to below this one, and its stamps are right
abbrev pub IsOrdered : {E : Type 0} → (E → Stamp) → ℕ → ℕ → List (Logged E) → ℕ → Type 0
IsOrdered stamp first seats log below = Ascends first log below × Every (IsStamped stamp seats) log

module _ {T H E : Type 0} (head : T → H) (entries : T → List E) where
  -- what a lock with this key is about
  abbrev pub about_of : Key T → About H E
  about_of key = record {
    head = head key.value.value ∷ [];
    opening = entries key.value.value;
    seats = key.seats;
    first = key.first;
  }

  -- the value has the head of the opening, and the opening list with this log behind it
  abbrev pub IsJournal : About H E → List (Logged E) → T → Type 0
  IsJournal a log x = (head_in (Some a) ≡ Some (head x)) × (entries x ≡ a.opening ++ map entry_of log)

  module _ (stamp : E → Stamp) (a : About H E) where
    -- a seat's number is that of a seat in this state, and the log goes on from what it has seen
    pub record PartStands (w : LockWorld) (log : List (Logged E)) (state : SeatState) (p : Part E) : Type 0 where
      pub exists : p.number < length w.seats
      pub state_is : state_of w p.number ≡ state
      pub seen : Extends stamp p.number p.log log
      pub holds : (t : ℕ) → state ≡ Holding t → p.log ≡ log

    -- a view is about this lock in each of its parts
    abbrev pub ViewStands : LockWorld → List (Logged E) → View H E → Type 0
    ViewStands w log v = Every (λ p. (v.about ≡ Some a) × PartStands w log v.state p) v.parts

    -- the table stands for this world of whole tickets and this log of entries
    pub record Stands (w : LockWorld) (log : List (Logged E)) (s : State (Option T) (View H E)) : Type 0 where
      pub lawful : IsLawful w
      pub sized : length w.seats ≡ a.seats
      pub few : a.seats ≤ 64
      pub words : WordsStand w s.words
      pub drawn : w.next ≡ a.first + sum_by draws_of s.views
      pub left : w.served ≡ a.first + sum_by leaves_of s.views
      pub owned : (k : ℕ) → sum_by (owns k) s.views ≡ once_below k a.seats
      pub counted : sum_by width s.views ≡ a.seats
      pub ordered : IsOrdered stamp a.first a.seats log w.served
      pub views : (i : ℕ) (v : View H E) → get_elem? s.views i ≡ some v → ViewStands w log v
      pub home : ((k t : ℕ) → Holds w k t → ⊥) → (x : T) × (s.homes ≡ some (Some x) ∷ []) × IsJournal a log x
      pub out : (k t : ℕ) → Holds w k t → s.homes ≡ none ∷ []

    -- the rule: the table stands for some world and some log
    abbrev pub Ruled : State (Option T) (View H E) → Type 0
    Ruled s = (w : LockWorld) × (log : List (Logged E)) × Stands w log s
