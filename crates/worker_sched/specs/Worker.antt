-- What contracts see of a worker, and what each of its calls does.
use Rattle.std.specs.Prelude.{◌≡◌, ◌+◌, ◌<◌, ℕ, Bool, true, false, List, [], ◌++◌, length, Option, None, Some}
use Rattle.std.specs.Prelude.{IfSome, IsSome, MatchOption, option_to_list, option_map, is_some, not, ◌||◌}
use Rattle.std.specs.Global.{Vec}
use Rattle.minislots.specs.declared.config.Config.{Config}
use Rattle.sched_calls.specs.declared.call.Call.{Call}
use Rattle.sched_calls.specs.declared.reply.Entry.{Entry}
use Rattle.sched_history.specs.declared.scheduler.handing_over.HandedOver.{HandedOver}
use Rattle.ticket_lock.specs.Rule.{Every}
use Rattle.ticket_lock.specs.Standing.{Standing, seats_of}
use Rattle.ticket_lock.specs.Calls.{Opens, Draws}
use Rattle.sched_desk.specs.declared.event.Event.{Event}
use Rattle.sched_desk.specs.Events.{author_of}
use Rattle.sched_desk.specs.Desk.{FixedDesk, SharedDesk, fixed_of, events_of, empty_desk, no_press, machine_seen}
use Rattle.sched_desk.specs.Handing.{ForgetsHeld, MarksHeld}
use Rattle.worker_sched.specs.declared.worker.Turn.{Turn}
use Rattle.worker_sched.specs.declared.worker.Turn.TheVariants.{Ended, NotYet, NoTicket}
use Rattle.worker_sched.specs.declared.turning.HandOver.{HandOver}
use Rattle.worker_sched.specs.declared.turning.HandOver.TheVariants as over
use Rattle.worker_sched.specs.declared.turning.Forget.{Forget}
use Rattle.worker_sched.specs.declared.turning.Forget.TheVariants as forget
use Rattle.worker_sched.specs.declared.turning.Begin.{Begin}
use Rattle.worker_sched.specs.declared.turning.Begin.TheVariants as begin
use Rattle.worker_sched.specs.declared.worker.CloseFault.{CloseFault}
use Rattle.worker_sched.specs.declared.worker.CloseFault.TheVariants.{HasTicket, Others, NotServed}
use Rattle.sched_history.specs.Machine.{Machine}
use Rattle.worker_sched.specs.Workplace.{HasEntered, AnswersTurn, HandsOverTurn, ForgetsTurn, EndsWith, IsNotServed}

-- where a seat stands
abbrev pub Stands : Type 0
Stands = Standing FixedDesk Event

-- a worker: its workplace, its seat or the ticket that it drew with it or the holder that it is in its turn, and the
-- seats of nobody that are with it
pub record WorkerState : Type 0 where
  pub place : SharedDesk
  pub seat : Option Stands
  pub ticket : Option Stands
  pub entered : Option Stands
  pub spare : List Stands

-- all that it has is of the workplace's lock
pub record HasOwn (place : SharedDesk) (seat ticket entered : Option Stands) (spare : List Stands) : Type 0 where
  pub seat_is : IfSome seat (λ s. s.lock ≡ place.lock)
  pub ticket_is : IfSome ticket (λ t. t.lock ≡ place.lock)
  pub entered_is : IfSome entered (λ h. h.lock ≡ place.lock)
  pub spare_are : Every (λ s. s.lock ≡ place.lock) spare

-- the seats that are with a worker, its own the last
abbrev pub seats_with : WorkerState → List Stands
seats_with w = w.spare ++ option_to_list w.seat

-- the first worker of a workplace that was opened with this many seats: one is its own, and the others are with it
pub record IsFirstWorker (c : Config) (keeps : Bool) (seats : ℕ) (w : WorkerState) : Type 0 where
  pub config : w.place.config ≡ c
  pub keeping : w.place.keeps ≡ keeps
  pub seat_is : IsSome w.seat
  pub ticket_is : w.ticket ≡ None
  pub entered_is : w.entered ≡ None
  pub opened : Opens fixed_of events_of (empty_desk c no_press keeps) seats 0 w.place.lock (seats_with w)

-- the first worker at this place has these seats: the last is its own, if there is any
pub record IsFirstOf (place : SharedDesk) (seats : List Stands) (w : WorkerState) : Type 0 where
  pub place_is : w.place ≡ place
  pub seats_are : seats ≡ seats_with w
  pub ticket_is : w.ticket ≡ None
  pub entered_is : w.entered ≡ None
  pub seat_is : 0 < length seats → IsSome w.seat

-- a new worker has one of the seats that were with this one
pub record Hires (old new w : WorkerState) : Type 0 where
  pub seat_is : IsSome w.seat
  pub taken : old ≡ record new { spare = new.spare ++ option_to_list w.seat }
  pub place : w.place ≡ old.place
  pub ticket_is : w.ticket ≡ None
  pub entered_is : w.entered ≡ None
  pub spare_are : w.spare ≡ []

-- a worker that has a ticket, or no seat to draw one with
abbrev pub is_busy : WorkerState → Bool
is_busy w = is_some w.ticket || not (is_some w.seat)

-- a worker that has a seat and no ticket draws one with it; nothing else of it changes, or nothing at all
abbrev pub DrawsTicket : WorkerState → WorkerState → Bool → Type 0
DrawsTicket old new true = (s : Stands) × (t : Stands) × (old.seat ≡ Some s) × (old.ticket ≡ None)
    × (new ≡ record old { seat = None; ticket = Some t }) × Draws author_of s t
DrawsTicket old new false = (new ≡ old) × (is_busy old ≡ true)

-- the turn of a worker with this ticket
abbrev pub TakesTurnWith : Stands → WorkerState → WorkerState → Call → Turn → Type 0
TakesTurnWith t old new call (Ended answer) = (w : Stands) × (new ≡ record old { seat = Some w; ticket = None })
    × AnswersTurn old.place.config t call w answer
TakesTurnWith t old new call NotYet = new ≡ record old { ticket = Some (record t { looks = t.looks + 1 }) }
TakesTurnWith t old new call NoTicket = ⊥

-- the turn of a worker with a ticket, or with none
abbrev pub TakesTurn : WorkerState → WorkerState → Call → Turn → Type 0
TakesTurn old new call turn = MatchOption old.ticket ((turn ≡ NoTicket) × (new ≡ old))
    (λ t. TakesTurnWith t old new call turn)

-- the turn of a worker with this ticket that hands over what is kept
abbrev pub HandsOverWith : Stands → WorkerState → WorkerState → Vec Entry → HandOver → Type 0
HandsOverWith t old new room (over.Ended answer) = (w : Stands) × (new ≡ record old { seat = Some w; ticket = None })
    × HandsOverTurn old.place.config old.place.keeps t room w answer
HandsOverWith t old new room (over.NotYet back) = (back ≡ room)
    × (new ≡ record old { ticket = Some (record t { looks = t.looks + 1 }) })
HandsOverWith t old new room (over.NoTicket back) = ⊥

-- the turn of a worker that hands over what is kept, with a ticket or with none
abbrev pub TurnsOver : WorkerState → WorkerState → Vec Entry → HandOver → Type 0
TurnsOver old new room turn = MatchOption old.ticket ((turn ≡ over.NoTicket room) × (new ≡ old))
    (λ t. HandsOverWith t old new room turn)

-- the turn of a worker with this ticket that forgets what is kept
abbrev pub ForgetsWith : Stands → WorkerState → WorkerState → Forget → Type 0
ForgetsWith t old new (forget.Ended done) = (w : Stands) × (new ≡ record old { seat = Some w; ticket = None })
    × ForgetsTurn old.place.config old.place.keeps t w done
ForgetsWith t old new forget.NotYet = new ≡ record old { ticket = Some (record t { looks = t.looks + 1 }) }
ForgetsWith t old new forget.NoTicket = ⊥

-- the turn of a worker that forgets what is kept, with a ticket or with none
abbrev pub TurnsForgetting : WorkerState → WorkerState → Forget → Type 0
TurnsForgetting old new turn = MatchOption old.ticket ((turn ≡ forget.NoTicket) × (new ≡ old))
    (λ t. ForgetsWith t old new turn)

-- a worker with this ticket begins its turn, after entries of others alone, or is not served yet
abbrev pub BeginsWith : Stands → WorkerState → WorkerState → Begin → Type 0
BeginsWith t old new begin.Entered =
    (h : Stands) × (new ≡ record old { ticket = None; entered = Some h }) × HasEntered t h
BeginsWith t old new begin.NotYet = new ≡ record old { ticket = Some (record t { looks = t.looks + 1 }) }
BeginsWith t old new begin.NoTicket = ⊥

-- a worker begins its turn, is not served yet, or has no ticket
abbrev pub BeginsTurn : WorkerState → WorkerState → Begin → Type 0
BeginsTurn old new begun = MatchOption old.ticket ((begun ≡ begin.NoTicket) × (new ≡ old))
    (λ t. BeginsWith t old new begun)

-- what a worker in its turn sees: the scheduler that it has entered
abbrev pub scheduler_of : WorkerState → Option Machine
scheduler_of w = option_map (machine_seen w.place.config) w.entered

-- a worker in its turn lets go of what is kept, where it may, and has its seat again; one in no turn stays
abbrev pub EndsForgetting : WorkerState → WorkerState → Option Bool → Type 0
EndsForgetting old new None = (new ≡ old) × (old.entered ≡ None)
EndsForgetting old new (Some done) = (h : Stands) × (w : Stands) × (old.entered ≡ Some h)
    × (new ≡ record old { seat = Some w; entered = None })
    × ForgetsHeld old.place.config h old.place.keeps w done

-- a worker ends its turn, in which nothing changed, and has its seat again; one in no turn stays
abbrev pub EndsTurn : WorkerState → WorkerState → Bool → Type 0
EndsTurn old new false = (new ≡ old) × (old.entered ≡ None)
EndsTurn old new true = (h : Stands) × (w : Stands) × (old.entered ≡ Some h)
    × (new ≡ record old { seat = Some w; entered = None }) × MarksHeld old.place.config h false w

-- a worker has closed its workplace: its seat is spent, and this is the scheduler
pub record ClosesWorker (old new : WorkerState) (m : Machine) : Type 0 where
  pub seat : Stands
  pub seat_is : old.seat ≡ Some seat
  pub ticket_is : old.ticket ≡ None
  pub spent : new ≡ record old { seat = None }
  pub ended : EndsWith old.place.config old.place.keeps seat m

-- a workplace is not closed, and why
abbrev pub StaysOpen : WorkerState → WorkerState → CloseFault → Type 0
StaysOpen old new HasTicket = (new ≡ old) × (is_busy old ≡ true)
StaysOpen old new Others = (new ≡ old) × (is_busy old ≡ false)
    × (length (seats_with old) < seats_of old.place.lock)
StaysOpen old new NotServed = (s : Stands) × (t : Stands) × (old.seat ≡ Some s) × (old.ticket ≡ None)
    × (new ≡ record old { seat = None; ticket = Some t }) × IsNotServed s t
