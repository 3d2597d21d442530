-- A turn at the lock that makes one call: whoever's thread takes it, it is the turn of the seat with this ticket.
use Rattle.std.specs.Prelude.{◌≡◌, List, Some}
use Rattle.minislots.specs.declared.stamp.Stamp.{Stamp}
use Rattle.ticket_lock.specs.Standing.{Standing, head_of, seen}
use Rattle.ticket_lock.specs.Calls.{Draws, Enters, Leaves}

module _ {T H E : Type 0} (head : T → H) (entries : T → List E) where
  -- the value is as this holder was handed it
  pub record IsHanded (s : Standing H E) (x : T) : Type 0 where
    pub head_is : Some (head x) ≡ head_of s.lock
    pub entries_are : entries x ≡ seen s

module _ {T H E C R : Type 0} (stamp : E → Stamp) (head : T → H) (entries : T → List E)
    (made : Standing H E → T → C → T → R → Type 0) (call : C) (reply : R) where
  -- a holder made the call on the value that it was handed, and left
  pub record EndsTurn (holder : Standing H E) (handed : T) (w : Standing H E) : Type 0 where
    pub given : T
    pub called : made holder handed call given reply
    pub left : Leaves stamp head entries holder given w

  -- a seat with a ticket has entered, made the call once, and left
  pub record TakesTurn (ticket w : Standing H E) : Type 0 where
    pub holder : Standing H E
    pub handed : T
    pub entered : Enters stamp head entries ticket holder handed
    pub ended : EndsTurn holder handed w

  -- a seat has drawn a ticket, and taken its turn
  pub record CallsInTurn (seat w : Standing H E) : Type 0 where
    pub ticket : Standing H E
    pub drawn : Draws stamp seat ticket
    pub turn : TakesTurn ticket w
