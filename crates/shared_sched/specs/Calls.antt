-- What a call under the lock answers, and what its seat has seen afterwards.
use Rattle.std.specs.Prelude.{◌≡◌, ◌+◌, Bool, List, ◌++◌, map, Result}
use Rattle.std.specs.Global.{Vec}
use Rattle.minislots.specs.declared.config.Config.{Config}
use Rattle.sched_calls.specs.declared.call.Call.{Call}
use Rattle.sched_calls.specs.declared.reply.Entry.{Entry}
use Rattle.sched_calls.specs.declared.reply.Reply.{Reply}
use Rattle.sched_calls.specs.declared.reply.Unrecorded.{Unrecorded}
use Rattle.sched_history.specs.declared.scheduler.handing_over.HandedOver.{HandedOver}
use Rattle.ticket_lock.specs.declared.board.Logged.{Logged}
use Rattle.ticket_lock.specs.Rule.{entry_of, IsOfOthers}
use Rattle.ticket_lock.specs.Standing.{Standing, stamp_of}
use Rattle.sched_desk.specs.declared.event.Event.{Event}
use Rattle.sched_desk.specs.Events.{author_of, history_in}
use Rattle.sched_desk.specs.Calls.{HasCalled, entry_by, AnswersHeld}
use Rattle.sched_desk.specs.Handing.{is_given, portion_by, HandsOverHeld}
use Rattle.sched_desk.specs.Desk.{DeskState, FixedDesk, history_seen, own_entries, own_portions}

-- a call was made on the desk by this holder: with its number and its ticket, whatever thread made it
abbrev pub IsMade : Standing FixedDesk Event → DeskState → Call → DeskState → Result Reply Unrecorded → Type 0
IsMade s d call x answer = HasCalled d (stamp_of s) call x answer

-- a seat has drawn a ticket and entered, and is this holder: it has seen what others alone had added
pub record HasEntered (s holder : Standing FixedDesk Event) : Type 0 where
  pub others : List (Logged Event)
  pub are_others : IsOfOthers author_of s.number others
  pub entered : holder ≡ record s { log = s.log ++ others; ticket = holder.ticket; looks = holder.looks }
  -- none of it is its own
  pub history_is : history_seen holder ≡ history_seen s ++ history_in (map entry_of others)
  pub own_are : own_entries holder ≡ own_entries s
  pub portions_are : own_portions holder ≡ own_portions s

module _ (c : Config) (s : Standing FixedDesk Event) (call : Call) where
  -- a seat has drawn a ticket, entered after entries of other seats alone, made its call and left
  pub record AnswersCall (w : Standing FixedDesk Event) (answer : Result Reply Unrecorded) : Type 0 where
    pub holder : Standing FixedDesk Event
    pub entered : HasEntered s holder
    pub answered : AnswersHeld c holder call w answer
    -- it has ended one turn more, whether the call was recorded or not
    pub turns : w.turns ≡ s.turns + 1
    pub own_is : own_entries w ≡ own_entries s ++ entry_by holder call answer
    pub portions_are : own_portions w ≡ own_portions s

module _ (c : Config) (keeps : Bool) (s : Standing FixedDesk Event) where
  -- a seat has drawn a ticket, entered, handed over what is kept, and left
  pub record HandsOver (room : Vec Entry) (w : Standing FixedDesk Event) (answer : Result HandedOver (Vec Entry))
      : Type 0 where
    pub holder : Standing FixedDesk Event
    pub entered : HasEntered s holder
    pub given : HandsOverHeld c holder keeps room w answer
    pub turns : w.turns ≡ s.turns + 1
    pub own_is : own_entries w ≡ own_entries s
    pub portions_are : own_portions w ≡ own_portions s ++ portion_by holder (is_given answer)
