-- What the exports of workers answer, and what is in their handles then.
use Rattle.std.specs.Prelude.{◌≡◌, ℕ, ◌+◌, ◌<◌, ◌⊎◌, true, [], Option, None, Some, MatchOption, Result, Ok}
use Rattle.std.specs.Prelude.{Err}
use Rattle.std.specs.Prelude.{is_some, ◌||◌, Bool}
use Rattle.minislots.specs.declared.config.Config.{Config}
use Rattle.minislots.specs.Config.{first_wrong}
use Rattle.sched_calls.specs.declared.call.Call.{Call}
use Rattle.sched_calls.specs.declared.reply.Reply.{Reply}
use Rattle.sched_calls.specs.declared.reply.Unrecorded.{Unrecorded}
use Rattle.sched_calls.specs.declared.reply.Unrecorded.TheVariants.{HistoryFull, Memory}
use Rattle.sched_history.specs.Machine.{Machine}
use Rattle.text_stream.specs.Fault.{field_number}
use Rattle.ticket_core.specs.declared.TheConstants.{MAX_SEATS}
use Rattle.worker_sched.specs.declared.worker.CloseFault.{CloseFault}
use Rattle.worker_sched.specs.declared.worker.CloseFault.TheVariants.{HasTicket, Others, NotServed}
use Rattle.worker_sched.specs.Workplace.{AnswersTurn}
use Rattle.worker_sched.specs.Worker.{Stands, WorkerState, IsFirstWorker, Hires, is_busy, DrawsTicket, ClosesWorker}
use Rattle.worker_sched.specs.Worker.{StaysOpen}
use Rattle.mapsched_c.specs.declared.reply.PlainReply.{PlainReply}
use Rattle.mapsched_c.specs.declared.status.TheConstants.{OK, EMPTY, FULL, BAD_CALL, HISTORY_FULL, OUT_OF_MEMORY}
use Rattle.mapsched_c.specs.declared.status.TheConstants.{NO_TICKET, NOT_SERVED, HAS_TICKET, NO_SEAT, WORKERS_OUT}
use Rattle.mapsched_c.specs.declared.status.TheConstants.{BAD_SEATS, BAD_CONFIG}
use Rattle.mapsched_c.specs.Reply.{plain_reply}

-- what a worker's handle has
abbrev pub Held : Type 0
Held = Option WorkerState

-- a lawful configuration makes a workplace with so many seats and its first worker, whose scheduler keeps its whole
-- history or goes on without end, or there cannot be so many seats, or memory ran out, and then there is none
abbrev pub OpensPlace : Bool → Held → Config → ℕ → ℕ → Type 0
OpensPlace keeps new c seats status =
    ((status ≡ OK) × (w : WorkerState) × (new ≡ Some w) × IsFirstWorker c keeps seats w)
    ⊎ (((status ≡ BAD_SEATS) × (new ≡ None) × ((seats ≡ 0) ⊎ (MAX_SEATS < seats)))
    ⊎ ((status ≡ OUT_OF_MEMORY) × (new ≡ None)))

-- what the opening of a workplace answers: a handle that is full, and a wrong configuration, change nothing
abbrev pub OpensWorkers : Bool → Held → Held → Config → ℕ → ℕ → Type 0
OpensWorkers keeps (Some w) new c seats status = (status ≡ FULL) × (new ≡ Some w)
OpensWorkers keeps None new c seats status = MatchOption (first_wrong c) (OpensPlace keeps new c seats status)
    (λ fault. (status ≡ BAD_CONFIG + field_number fault) × (new ≡ None))

-- neither handle changes
abbrev pub Stay : {A B : Type 0} → A → A → B → B → Type 0
Stay old new before after = (new ≡ old) × (after ≡ before)

-- a worker hires another into an empty handle, or has no seat for it, or memory ran out
abbrev pub HiresInto : WorkerState → Held → Held → ℕ → Type 0
HiresInto w new hired status =
    ((status ≡ OK) × (x : WorkerState) × (y : WorkerState) × (new ≡ Some x) × (hired ≡ Some y) × Hires w x y)
    ⊎ (((status ≡ NO_SEAT) × Stay (Some w) new None hired × (w.spare ≡ []))
    ⊎ ((status ≡ OUT_OF_MEMORY) × Stay (Some w) new None hired))

-- what a hire answers
abbrev pub HiresWorker : Held → Held → Held → Held → ℕ → Type 0
HiresWorker None new before after status = (status ≡ EMPTY) × Stay None new before after
HiresWorker (Some w) new (Some h) after status = (status ≡ FULL) × Stay (Some w) new (Some h) after
HiresWorker (Some w) new None after status = HiresInto w new after status

-- what a draw answers: a ticket is drawn, or the worker has one and nothing changes
abbrev pub Draws : Held → Held → ℕ → Type 0
Draws None new status = (status ≡ EMPTY) × (new ≡ None)
Draws (Some w) new status = ((status ≡ OK) × (x : WorkerState) × (new ≡ Some x) × DrawsTicket w x true)
    ⊎ ((status ≡ HAS_TICKET) × (new ≡ Some w) × (is_busy w ≡ true))

-- what is written of a call that was answered
abbrev pub Writes : Result Reply Unrecorded → ℕ → PlainReply → PlainReply → Type 0
Writes (Ok reply) status before after = (status ≡ OK) × (after ≡ plain_reply before reply)
Writes (Err HistoryFull) status before after = (status ≡ HISTORY_FULL) × (after ≡ before)
Writes (Err Memory) status before after = (status ≡ OUT_OF_MEMORY) × (after ≡ before)

-- the turn of this ticket has ended with an answer, which is written
pub record EndsTurn (w : WorkerState) (t : Stands) (new : Held) (call : Call) (status : ℕ)
    (before after : PlainReply) : Type 0 where
  pub answer : Result Reply Unrecorded
  pub seat : Stands
  pub turned : AnswersTurn w.place.config t call seat answer
  pub seated : new ≡ Some (record w { seat = Some seat; ticket = None })
  pub written : Writes answer status before after

-- a turn with this ticket ends, or the ticket is not served yet
abbrev pub TurnsWith : WorkerState → Stands → Held → Call → ℕ → PlainReply → PlainReply → Type 0
TurnsWith w t new call status before after = EndsTurn w t new call status before after
    ⊎ ((status ≡ NOT_SERVED) × Stay
    (Some (record w { ticket = Some (record t { looks = t.looks + 1 }) })) new before after)

-- what a turn answers
abbrev pub Turns : Held → Held → Option Call → ℕ → PlainReply → PlainReply → Type 0
Turns None new call status before after = (status ≡ EMPTY) × Stay None new before after
Turns (Some w) new None status before after = (status ≡ BAD_CALL) × Stay (Some w) new before after
Turns (Some w) new (Some call) status before after =
    MatchOption w.ticket ((status ≡ NO_TICKET) × Stay (Some w) new before after)
    (λ t. TurnsWith w t new call status before after)

-- what a worker that leaves is answered: one with a ticket stays, and so does one in its turn
abbrev pub LeavesPlace : Held → Held → ℕ → Type 0
LeavesPlace None new status = (status ≡ EMPTY) × (new ≡ None)
LeavesPlace (Some w) new status = ((status ≡ OK) × (new ≡ None) × (w.ticket ≡ None) × (w.entered ≡ None))
    ⊎ ((status ≡ HAS_TICKET) × (new ≡ Some w) × ((is_some w.ticket || is_some w.entered) ≡ true))

-- the status of a workplace that is not closed
abbrev pub close_status : CloseFault → ℕ
close_status HasTicket = HAS_TICKET
close_status Others = WORKERS_OUT
close_status NotServed = NOT_SERVED

-- a workplace is closed, and its scheduler is in the handle that was empty, or why not
abbrev pub ClosesInto : WorkerState → Held → Option Machine → ℕ → Type 0
ClosesInto w new scheduler status =
    ((status ≡ OK) × (new ≡ None) × (x : WorkerState) × (m : Machine) × (scheduler ≡ Some m) × ClosesWorker w x m)
    ⊎ ((fault : CloseFault) × (status ≡ close_status fault) × (scheduler ≡ None) × (x : WorkerState) × (new ≡ Some x)
    × StaysOpen w x fault)

-- what a close answers
abbrev pub ClosesPlace : Held → Held → Option Machine → Option Machine → ℕ → Type 0
ClosesPlace None new before after status = (status ≡ EMPTY) × Stay None new before after
ClosesPlace (Some w) new (Some m) after status = (status ≡ FULL) × Stay (Some w) new (Some m) after
ClosesPlace (Some w) new None after status = ClosesInto w new after status
