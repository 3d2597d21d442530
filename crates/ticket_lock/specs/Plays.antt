-- What each step of a seat makes of its view, and what it tells.
use Rattle.std.specs.Prelude.{◌≡◌, ◌≢◌, ◌⊎◌, ℕ, ◌+◌, ◌%◌, ◌^◌, List, [], ◌∷◌, ◌++◌, map, Option, Some, None}
use Rattle.atomic_table.specs.Table.{Me, Step}
use Rattle.minislots.specs.declared.stamp.Stamp.{Stamp}
use Rattle.ticket_core.specs.declared.SeatState.TheVariants.{Idle, Waiting, Holding}
use Rattle.ticket_lock.specs.declared.board.About.{About}
use Rattle.ticket_lock.specs.declared.board.Logged.{Logged}
use Rattle.ticket_lock.specs.declared.board.Part.{Part}
use Rattle.ticket_lock.specs.declared.board.View.{View}
use Rattle.ticket_lock.specs.Rule.{entry_of, head_in, IsOfOthers, IsOrdered, IsJournal}
use Rattle.ticket_lock.specs.Standing.{opening_in}

-- the parts but the first
abbrev pub parts_behind : {E : Type 0} → List (Part E) → List (Part E)
parts_behind [] = []
parts_behind (p ∷ ps) = ps

-- the first part alone
abbrev pub parts_ahead : {E : Type 0} → List (Part E) → List (Part E)
parts_ahead [] = []
parts_ahead (p ∷ ps) = p ∷ []

-- the part, with more entries seen
abbrev pub part_with : {E : Type 0} → Part E → List (Logged E) → Part E
part_with p more = record p { log = p.log ++ more }

-- the part of a seat that has left: it has seen more, and has ended one turn more
abbrev pub part_left : {E : Type 0} → Part E → List (Logged E) → Part E
part_left p more = record p { log = p.log ++ more; turns = p.turns + 1 }

-- what was added while a seat held the lock: nothing, or one entry with its number and its ticket
abbrev pub IsAdded : {E : Type 0} → (E → Stamp) → ℕ → ℕ → List (Logged E) → Type 0
IsAdded {E} stamp number ticket more = (more ≡ [])
    ⊎ ((e : E) × (more ≡ record { entry = e; ticket = ticket } ∷ [])
    × (stamp e ≡ record { seat = number; ticket = ticket % 2 ^ 64 }))

module _ {H E : Type 0} where
  -- a seat that has drawn a ticket waits with it
  abbrev pub drawn_view : View H E → ℕ → View H E
  drawn_view v t = record v { state = Waiting t; draws = v.draws + 1 }

  -- a seat that has looked waits as before
  abbrev pub looked_view : View H E → View H E
  looked_view v = record v { looks = v.looks + 1 }

  -- a seat that has entered holds the lock, and has seen more
  abbrev pub entered_view : View H E → Part E → ℕ → List (Logged E) → View H E
  entered_view v p t more = record v { parts = part_with p more ∷ []; state = Holding t }

  -- a seat that has left is idle, has seen what it added, and has ended one turn more
  abbrev pub left_view : View H E → Part E → List (Logged E) → View H E
  left_view v p more = record v { parts = part_left p more ∷ []; state = Idle }

  -- the view of a seat that was joined to another
  abbrev pub spent_view : View H E
  spent_view = record { about = None; parts = []; state = Idle; draws = 0; looks = 0 }

  -- a view without its first part
  abbrev pub rest_view : View H E → View H E
  rest_view v = record v { parts = parts_behind v.parts }

  -- the view of a new seat that has the first part of a view
  abbrev pub first_part_view : View H E → View H E
  first_part_view v = record {
    about = v.about;
    parts = parts_ahead v.parts;
    state = v.state;
    draws = 0;
    looks = 0;
  }

  -- a view with the parts and the counts of another
  abbrev pub joined_view : View H E → View H E → View H E
  joined_view v u = record v {
    parts = u.parts ++ v.parts;
    draws = v.draws + u.draws;
    looks = v.looks + u.looks;
  }

module _ {T H E : Type 0} (stamp : E → Stamp) where
  -- a draw: an idle seat waits with the ticket whose residue was found, which is above all that it has seen
  abbrev pub Drawn : Step (Option T) → Me (Option T) (View H E) → ℕ → Me (Option T) (View H E) → Type 0
  Drawn st m found m' = (p : Part E) → m.0.parts ≡ p ∷ [] → m.0.state ≡ Idle
      → (t : ℕ) × (a : About H E) × (m.0.about ≡ Some a) × (found ≡ t % 2 ^ 64) × (m' ≡ (drawn_view m.0 t, m.1))
      × IsOrdered stamp a.first a.seats p.log t

  module _ (head : T → H) (entries : T → List E) where
    -- a waiting seat finds its own ticket, and holds the value; or it finds another, and has looked once more
    abbrev pub Looked : Step (Option T) → Me (Option T) (View H E) → ℕ → Me (Option T) (View H E) → Type 0
    Looked st m found m' = (p : Part E) (t : ℕ) → m.0.parts ≡ p ∷ [] → m.0.state ≡ Waiting t
        → (found ≡ t % 2 ^ 64
        → (a : About H E) × (m.0.about ≡ Some a) × (more : List (Logged E)) × (x : T)
        × (m' ≡ (entered_view m.0 p t more, (0, Some x) ∷ m.1)) × IsOfOthers stamp p.number more
        × IsJournal head entries a (p.log ++ more) x × IsOrdered stamp a.first a.seats (p.log ++ more) t)
        × (found ≢ t % 2 ^ 64 → m' ≡ (looked_view m.0, m.1))

    -- the value has the head at the opening, and its list is the one entered, or that and one entry of this holder
    abbrev pub MayPut : Option (About H E) → Part E → ℕ → T → Type 0
    MayPut about p t x = (head_in about ≡ Some (head x))
        × ((more : List (Logged E)) × (entries x ≡ opening_in about ++ map entry_of (p.log ++ more))
        × IsAdded stamp p.number t more)

    -- the holder leaves, has seen what it added to the value that it gave back, and has ended one turn more
    abbrev pub Left : Step (Option T) → Me (Option T) (View H E) → ℕ → Me (Option T) (View H E) → Type 0
    Left st m found m' = (p : Part E) (t : ℕ) (x : T) → m.0.parts ≡ p ∷ [] → m.0.state ≡ Holding t
        → m.1 ≡ (0, Some x) ∷ []
        → (a : About H E) × (m.0.about ≡ Some a) × (more : List (Logged E)) × (m' ≡ (left_view m.0 p more, []))
        × (entries x ≡ a.opening ++ map entry_of (p.log ++ more)) × IsAdded stamp p.number t more
        × IsOrdered stamp a.first a.seats (p.log ++ more) (t + 1)
