-- What a call of the desk's holder answers, and what its seat has seen afterwards.
use Rattle.std.specs.Prelude.{◌≡◌, ◌≤◌, ◌↔◌, ◌+◌, true, nat_le, List, [], ◌∷◌, ◌++◌, map, length, Some, Result, Ok, Err}
use Rattle.std.specs.Prelude.{IfOk, OnErr, IsErrOf}
use Rattle.minislots.specs.declared.config.Config.{Config}
use Rattle.minislots.specs.declared.stamp.Stamp.{Stamp}
use Rattle.sched_calls.specs.declared.call.Call.{Call}
use Rattle.sched_calls.specs.declared.reply.Entry.{Entry}
use Rattle.sched_calls.specs.declared.reply.Reply.{Reply}
use Rattle.sched_calls.specs.declared.reply.Unrecorded.{Unrecorded}
use Rattle.sched_calls.specs.declared.reply.Unrecorded.TheVariants.{HistoryFull, Memory}
use Rattle.sched_history.specs.History.{IsStep, IsLegal}
use Rattle.sched_history.specs.Machine.{Machine, is_full, MayLackMemory}
use Rattle.sched_calls.specs.Reply.{IsEncodable}
use Rattle.ticket_lock.specs.declared.board.Logged.{Logged}
use Rattle.ticket_lock.specs.Rule.{entry_of}
use Rattle.ticket_lock.specs.Standing.{Standing, head_of, seen, stamp_of}
use Rattle.sched_desk.specs.declared.event.Event.{Event}
use Rattle.sched_desk.specs.declared.event.Event.TheVariants.{Recorded}
use Rattle.sched_desk.specs.Events.{history_in, handed_in}
use Rattle.sched_desk.specs.Desk.{DeskState, FixedDesk, Recording, fixed_of, machine_of, history_of, SeesLegal}
use Rattle.sched_desk.specs.Desk.{history_seen, machine_seen, own_entries, own_portions}

-- the desk is as the holder entered it
pub record IsEntered (s : Standing FixedDesk Event) (d : DeskState) : Type 0 where
  pub head_is : Some (fixed_of d) ≡ head_of s.lock
  pub entries_are : d.events ≡ seen s

-- the scheduler with one entry more
abbrev pub grown : Machine → Stamp → Call → Reply → Machine
grown m stamp call reply = record m {
  history = m.history ++ record { stamp = stamp; call = call; reply = reply } ∷ [];
}

-- a call with this stamp was answered by a scheduler, which is then another
pub record HasAnswered (m : Machine) (stamp : Stamp) (call : Call) (x : Machine) (answer : Result Reply Unrecorded)
    : Type 0 where
  pub recorded : IfOk answer (λ reply. x ≡ grown m stamp call reply)
  pub same : OnErr answer (x ≡ m)
  pub step : IfOk answer (λ reply. IsStep m.config m.history call reply)
  pub encodable : IfOk answer IsEncodable
  pub full : IsErrOf answer HistoryFull ↔ (is_full m ≡ true)
  -- where nothing was handed over the whole history is kept
  pub whole : m.handed ≡ 0 → IsErrOf answer HistoryFull ↔ (m.config.calls ≤ length m.history)
  pub memory : IsErrOf answer Memory → MayLackMemory m.config m.history call
  pub legal : IsLegal x.config x.history

-- and the press with it stays
pub record HasRecorded (r : Recording) (stamp : Stamp) (call : Call) (x : Recording)
    (answer : Result Reply Unrecorded) : Type 0 where
  pub answered : HasAnswered r.machine stamp call x.machine answer
  pub press : x.press ≡ r.press

-- a call with this stamp was answered at a desk, which is then another
pub record HasCalled (d : DeskState) (stamp : Stamp) (call : Call) (x : DeskState)
    (answer : Result Reply Unrecorded) : Type 0 where
  pub recorded : IfOk answer (λ reply.
      x ≡ record d { events = d.events ++ Recorded (record { stamp = stamp; call = call; reply = reply }) ∷ [] })
  pub same : OnErr answer (x ≡ d)
  pub step : IfOk answer (λ reply. IsStep d.config (history_of d) call reply)
  pub encodable : IfOk answer IsEncodable
  pub full : IsErrOf answer HistoryFull ↔ (is_full (machine_of d) ≡ true)
  -- where nothing was handed over the whole history is kept
  pub whole : handed_in d.events ≡ 0 → IsErrOf answer HistoryFull ↔ (d.config.calls ≤ length (history_of d))
  pub memory : IsErrOf answer Memory → MayLackMemory d.config (history_of d) call
  pub legal : IsLegal x.config (history_of x)

-- what a holder's call adds: if it was recorded, one entry with the holder's number and ticket, the call and
-- the reply answered
abbrev pub added_by : Standing FixedDesk Event → Call → Result Reply Unrecorded → List (Logged Event)
added_by s call (Ok reply) = record {
  entry = Recorded (record { stamp = stamp_of s; call = call; reply = reply });
  ticket = s.ticket;
} ∷ []
added_by s call (Err unrecorded) = []

-- the entry that it adds to the history, if any
abbrev pub entry_by : Standing FixedDesk Event → Call → Result Reply Unrecorded → List Entry
entry_by s call (Ok reply) = record { stamp = stamp_of s; call = call; reply = reply } ∷ []
entry_by s call (Err unrecorded) = []

module _ (c : Config) (s : Standing FixedDesk Event) (call : Call) where
  -- a holder's call was answered, and its seat has left
  pub record AnswersHeld (w : Standing FixedDesk Event) (answer : Result Reply Unrecorded) : Type 0 where
    -- it has seen the list entered and what it added, has ended one turn more, recorded or not, and nothing else of it
    -- changed
    pub left : w ≡ record s { log = s.log ++ added_by s call answer; ticket = 0; turns = s.turns + 1 }
    pub history_is : history_seen w ≡ history_seen s ++ entry_by s call answer
    pub own_is : own_entries w ≡ own_entries s ++ entry_by s call answer
    -- nothing more was handed over
    pub handed_is : handed_in (seen w) ≡ handed_in (seen s)
    pub portions_are : own_portions w ≡ own_portions s
    pub sees : SeesLegal c w (s.ticket + 1)
    -- the reply may follow the list entered
    pub step : IfOk answer (λ reply. IsStep c (history_seen s) call reply)
    pub encodable : IfOk answer IsEncodable
    -- when a call is not recorded; where nothing was handed over the whole history is kept
    pub full : IsErrOf answer HistoryFull ↔ (is_full (machine_seen c s) ≡ true)
    pub whole : handed_in (seen s) ≡ 0 → IsErrOf answer HistoryFull ↔ (c.calls ≤ length (history_seen s))
    pub memory : IsErrOf answer Memory → MayLackMemory c (history_seen s) call
