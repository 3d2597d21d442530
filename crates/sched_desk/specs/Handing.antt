-- What a desk's holder hands over, or has forgotten, and what its seat has seen afterwards.
use Rattle.std.specs.Prelude.{◌≡◌, ◌≤◌, ◌↔◌, ◌+◌, ℕ, Bool, true, false, if◌then◌else◌, List, [], ◌∷◌, ◌++◌, length}
use Rattle.std.specs.Prelude.{vec_capacity, Result, Ok, Err, IfOk, IfErr, OnOk, OnErr, IsOk, not}
use Rattle.std.specs.Global.{Vec}
use Rattle.std.specs.List.{AllByRecursion}
use Rattle.minislots.specs.declared.config.Config.{Config}
use Rattle.minislots.specs.declared.stamp.Stamp.{Stamp}
use Rattle.sched_calls.specs.declared.reply.Entry.{Entry}
use Rattle.sched_history.specs.declared.scheduler.handing_over.HandedOver.{HandedOver}
use Rattle.sched_calls.specs.Reply.{IsEncodable}
use Rattle.ticket_lock.specs.declared.board.Logged.{Logged}
use Rattle.ticket_lock.specs.Standing.{Standing, seen, stamp_of}
use Rattle.sched_desk.specs.declared.event.Event.{Event}
use Rattle.sched_desk.specs.declared.event.Event.TheVariants.{Marked}
use Rattle.sched_desk.specs.Events.{handed_in, kept_in}
use Rattle.sched_desk.specs.Portions.{Portion}
use Rattle.sched_desk.specs.Desk.{DeskState, FixedDesk, SeesLegal, history_seen, own_entries, own_portions}

-- a desk with this mark more, where it was made
abbrev pub marked_by : DeskState → Stamp → Bool → DeskState
marked_by d stamp true = record d { events = d.events ++ Marked stamp ∷ [] }
marked_by d stamp false = d

-- whether what is kept was given
abbrev pub is_given : Result HandedOver (Vec Entry) → Bool
is_given (Ok given) = true
is_given (Err room) = false

-- what is kept of these events was given in exchange for this room, or the room came back
pub record Gives (c : Config) (keeps : Bool) (events : List Event) (room : Vec Entry)
    (answer : Result HandedOver (Vec Entry)) : Type 0 where
  -- the entries that are kept, with the place of the first in the whole history
  pub entries : IfOk answer (λ given. given.entries.items ≡ kept_in events)
  pub first : IfOk answer (λ given. given.first ≡ handed_in events)
  pub encodable : IfOk answer (λ given. AllByRecursion (λ e. IsEncodable e.reply) given.entries.items)
  -- exactly where the desk does not keep its whole history, and the room is an empty list that has enough
  pub exact : IsOk answer ↔ ((keeps ≡ false) × (room.items ≡ []) × (c.calls ≤ vec_capacity room))
  pub back : IfErr answer (λ back. back ≡ room)

-- a desk handed over what it kept, under a mark with this stamp, and is then another
pub record HasHandedOver (d : DeskState) (stamp : Stamp) (room : Vec Entry) (x : DeskState)
    (answer : Result HandedOver (Vec Entry)) : Type 0 where
  pub gives : Gives d.config d.keeps d.events room answer
  pub marked : x ≡ marked_by d stamp (is_given answer)

-- the mark that a holder makes
abbrev pub mark_by : Standing FixedDesk Event → Bool → List (Logged Event)
mark_by s true = record { entry = Marked (stamp_of s); ticket = s.ticket } ∷ []
mark_by s false = []

-- what a holder hands over: what is kept of what it has seen
abbrev pub portion_by : Standing FixedDesk Event → Bool → List Portion
portion_by s true = record { seat = s.number; first = handed_in (seen s); entries = kept_in (seen s) } ∷ []
portion_by s false = []

module _ (c : Config) (s : Standing FixedDesk Event) where
  -- a holder made a mark or none, and its seat has left
  pub record MarksHeld (made : Bool) (w : Standing FixedDesk Event) : Type 0 where
    -- it has seen the list entered and its mark, has ended one turn more, and nothing else of it changed
    pub left : w ≡ record s { log = s.log ++ mark_by s made; ticket = 0; turns = s.turns + 1 }
    -- the history stays, and where the mark was made all of it was handed over
    pub history_is : history_seen w ≡ history_seen s
    pub own_is : own_entries w ≡ own_entries s
    pub handed_is : handed_in (seen w) ≡ if made then length (history_seen s) else handed_in (seen s)
    pub portions_are : own_portions w ≡ own_portions s ++ portion_by s made
    pub sees : SeesLegal c w (s.ticket + 1)

  -- a holder handed over what the desk kept, and its seat has left
  pub record HandsOverHeld (keeps : Bool) (room : Vec Entry) (w : Standing FixedDesk Event)
      (answer : Result HandedOver (Vec Entry)) : Type 0 where
    pub gives : Gives c keeps (seen s) room answer
    pub marks : MarksHeld (is_given answer) w

  -- a holder let go of what the desk kept, where it does not keep its whole history, and its seat has left
  pub record ForgetsHeld (keeps : Bool) (w : Standing FixedDesk Event) (done : Bool) : Type 0 where
    pub exact : done ≡ not keeps
    pub marks : MarksHeld done w
