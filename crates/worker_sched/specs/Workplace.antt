-- What a turn at the lock answers, and what its seat has seen afterwards.
use Rattle.std.specs.Prelude.{◌≡◌, ℕ, Bool, true, ◌+◌, List, ◌++◌, map, Result}
use Rattle.std.specs.Global.{Vec}
use Rattle.minislots.specs.declared.config.Config.{Config}
use Rattle.sched_calls.specs.declared.call.Call.{Call}
use Rattle.sched_calls.specs.declared.reply.Entry.{Entry}
use Rattle.sched_calls.specs.declared.reply.Reply.{Reply}
use Rattle.sched_calls.specs.declared.reply.Unrecorded.{Unrecorded}
use Rattle.sched_history.specs.declared.scheduler.handing_over.HandedOver.{HandedOver}
use Rattle.ticket_lock.specs.declared.board.Logged.{Logged}
use Rattle.ticket_lock.specs.Rule.{entry_of, IsOfOthers, IsOrdered}
use Rattle.ticket_lock.specs.Standing.{Standing, seats_of, seen}
use Rattle.ticket_lock.specs.Calls.{Draws}
use Rattle.sched_desk.specs.declared.event.Event.{Event}
use Rattle.sched_desk.specs.Events.{author_of, history_in, handed_in}
use Rattle.sched_desk.specs.Calls.{IsEntered, entry_by, AnswersHeld}
use Rattle.sched_desk.specs.Handing.{is_given, portion_by, HandsOverHeld, ForgetsHeld}
use Rattle.sched_desk.specs.Desk.{DeskState, FixedDesk, history_seen, machine_of, own_entries, own_portions}
use Rattle.sched_history.specs.History.{IsLegal}
use Rattle.sched_history.specs.Machine.{Machine}

-- a seat with this ticket has entered, and is this holder: it has seen what others alone had added
pub record HasEntered (t holder : Standing FixedDesk Event) : Type 0 where
  pub others : List (Logged Event)
  pub are_others : IsOfOthers author_of t.number others
  pub entered : holder ≡ record t { log = t.log ++ others; looks = holder.looks }
  -- none of it is its own
  pub history_is : history_seen holder ≡ history_seen t ++ history_in (map entry_of others)
  pub own_are : own_entries holder ≡ own_entries t
  pub portions_are : own_portions holder ≡ own_portions t

-- the scheduler of the desk that this holder entered
abbrev pub IsSchedulerOf : Standing FixedDesk Event → Machine → Type 0
IsSchedulerOf h m = (d : DeskState) × IsEntered h d × (m ≡ machine_of d)

module _ (c : Config) (t : Standing FixedDesk Event) (call : Call) where
  -- a seat with this ticket has entered after entries of other seats alone, made its call and left
  pub record AnswersTurn (w : Standing FixedDesk Event) (answer : Result Reply Unrecorded) : Type 0 where
    pub holder : Standing FixedDesk Event
    pub entered : HasEntered t holder
    pub answered : AnswersHeld c holder call w answer
    -- it has ended one turn more, whether the call was recorded or not
    pub turns : w.turns ≡ t.turns + 1
    pub own_is : own_entries w ≡ own_entries t ++ entry_by holder call answer
    pub portions_are : own_portions w ≡ own_portions t

module _ (c : Config) (keeps : Bool) (t : Standing FixedDesk Event) where
  -- a seat with this ticket has entered, handed over what is kept, and left
  pub record HandsOverTurn (room : Vec Entry) (w : Standing FixedDesk Event) (answer : Result HandedOver (Vec Entry))
      : Type 0 where
    pub holder : Standing FixedDesk Event
    pub entered : HasEntered t holder
    pub given : HandsOverHeld c holder keeps room w answer
    pub turns : w.turns ≡ t.turns + 1
    pub own_is : own_entries w ≡ own_entries t
    pub portions_are : own_portions w ≡ own_portions t ++ portion_by holder (is_given answer)

  -- a seat with this ticket has entered, let go of what is kept, and left
  pub record ForgetsTurn (w : Standing FixedDesk Event) (done : Bool) : Type 0 where
    pub holder : Standing FixedDesk Event
    pub entered : HasEntered t holder
    pub forgotten : ForgetsHeld c holder keeps w done
    pub turns : w.turns ≡ t.turns + 1
    pub own_is : own_entries w ≡ own_entries t
    pub portions_are : own_portions w ≡ own_portions t ++ portion_by holder done

-- the ticket that a seat drew is not served
abbrev pub IsNotServed : Standing FixedDesk Event → Standing FixedDesk Event → Type 0
IsNotServed s t =
    (drawn : Standing FixedDesk Event) × Draws author_of s drawn × (t ≡ record drawn { looks = drawn.looks + 1 })

module _ (c : Config) (keeps : Bool) (s : Standing FixedDesk Event) where
  -- what a seat takes out for good: a scheduler whose history begins with all that the seat has seen, and goes on with
  -- entries of other seats alone
  pub record EndsWith (m : Machine) : Type 0 where
    pub config : m.config ≡ c
    pub others : List (Logged Event)
    pub are_others : IsOfOthers author_of s.number others
    pub history : m.history ≡ history_seen s ++ history_in (map entry_of others)
    -- so many of its entries were handed over: none where the desk keeps its whole history
    pub handed : m.handed ≡ handed_in (seen s ++ map entry_of others)
    pub whole : keeps ≡ true → m.handed ≡ 0
    -- it is legal, and in the order of the tickets, which are below this one
    pub legal : IsLegal c m.history
    pub below : ℕ
    pub ordered : IsOrdered author_of 0 (seats_of s.lock) (s.log ++ others) below
