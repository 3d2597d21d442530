-- What each call of a lock does, in the words of a standing.
use Rattle.std.specs.Prelude.{◌≡◌, ◌⊎◌, ℕ, ◌+◌, ◌%◌, ◌^◌, List, [], ◌∷◌, ◌++◌, map, sum_by, Some}
use Rattle.std.specs.Prelude.{◌==◌, if◌then◌else◌}
use Rattle.std.specs.List.{range_with_len}
use Rattle.minislots.specs.declared.stamp.Stamp.{Stamp}
use Rattle.ticket_lock.specs.declared.board.Logged.{Logged}
use Rattle.ticket_lock.specs.Rule.{entry_of, IsOfOthers, Extends, IsOrdered, Every, once_below}
use Rattle.ticket_lock.specs.Standing.{Lock, Standing, head_of, opening_of, seats_of, first_of, turns_of, seen}
use Rattle.ticket_lock.specs.Standing.{stamp_of}
use Rattle.ticket_lock.specs.Plays.{IsAdded}

-- how many of these seats have this number
abbrev pub bearers : {H E : Type 0} → ℕ → List (Standing H E) → ℕ
bearers k [] = 0
bearers k (s ∷ ss) = (if s.number == k then 1 else 0) + bearers k ss

module _ {H E : Type 0} (stamp : E → Stamp) where
  -- past the opening list the whole tickets of what is seen ascend strictly to below this one, and the stamps have them
  abbrev pub IsInOrder : Lock H E → List (Logged E) → ℕ → Type 0
  IsInOrder lock log below = IsOrdered stamp (first_of lock) (seats_of lock) log below

  -- a seat has drawn a ticket, which is above all that it has seen
  pub record Draws (s w : Standing H E) : Type 0 where
    pub drawn : w ≡ record s { ticket = w.ticket }
    pub ordered : IsInOrder s.lock s.log w.ticket

  module _ {T : Type 0} (head : T → H) (entries : T → List E) where
    -- a seat with a ticket has entered: the value's list begins with all that it had seen, and what is new is of others
    pub record Enters (s w : Standing H E) (x : T) : Type 0 where
      pub more : List (Logged E)
      pub entered : w ≡ record s { log = s.log ++ more; looks = w.looks }
      pub others : IsOfOthers stamp s.number more
      pub head_is : Some (head x) ≡ head_of s.lock
      pub entries_are : entries x ≡ seen w
      pub ordered : IsInOrder s.lock w.log w.ticket

    -- the holder may give this value back: it has the head, and its list is the one entered, or that and one entry
    -- with the holder's stamp
    pub record MayLeave (s : Standing H E) (x : T) : Type 0 where
      pub head_is : Some (head x) ≡ head_of s.lock
      pub entries_are : (entries x ≡ seen s) ⊎ ((e : E) × (entries x ≡ seen s ++ e ∷ []) × (stamp e ≡ stamp_of s))

    -- the holder has left, and has ended one turn more; it has seen what it added: nothing, or one entry with its stamp
    pub record Leaves (s : Standing H E) (x : T) (w : Standing H E) : Type 0 where
      pub more : List (Logged E)
      pub left : w ≡ record s { log = s.log ++ more; ticket = 0; turns = s.turns + 1 }
      pub added : IsAdded stamp s.number s.ticket more
      pub entries_are : entries x ≡ seen w
      pub ordered : IsInOrder s.lock w.log (s.ticket + 1)

    -- this is the ticket that a seat has served by its leave, modulo 2^64: the one behind that by which it held
    abbrev pub HasServed : Standing H E → ℕ → Type 0
    HasServed w ticket = (s : Standing H E) × (x : T) × Leaves s x w × (ticket ≡ (s.ticket + 1) % 2 ^ 64)

    -- the value at the close: its list begins with what each seat has seen, and past the opening list each seat's
    -- entries are those that it has seen, and there are no others, since each number of a seat is that of one of
    -- these
    pub record Closes (lock : Lock H E) (seats : List (Standing H E)) (x : T) : Type 0 where
      pub log : List (Logged E)
      pub head_is : Some (head x) ≡ head_of lock
      pub entries_are : entries x ≡ opening_of lock ++ map entry_of log
      pub below : ℕ
      pub ordered : IsInOrder lock log below
      pub each : Every (λ s. Extends stamp s.number s.log log) seats
      pub once : (k : ℕ) → bearers k seats ≡ once_below k (seats_of lock)
      -- the log's tickets are below the first one and as many more as these seats have ended turns
      pub turns : below ≡ first_of lock + sum_by turns_of seats

-- a seat as it is made, which has ended no turn
abbrev pub new_standing : {H E : Type 0} → Lock H E → ℕ → Standing H E
new_standing lock number = record { lock = lock; number = number; log = []; ticket = 0; looks = 0; turns = 0 }

-- a lock about this value, with this many seats, numbered by their places
pub record Opens {T H E : Type 0} (head : T → H) (entries : T → List E) (x : T) (count first : ℕ) (lock : Lock H E)
    (seats : List (Standing H E)) : Type 0 where
  pub about_is : lock.about ≡ Some record { head = head x ∷ []; opening = entries x; seats = count; first = first }
  pub seats_are : seats ≡ map (new_standing lock) (range_with_len 0 count)
