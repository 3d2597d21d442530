-- What the exports of a worker's turn answer: how it begins, what is looked at in it, and how it ends.
use Rattle.std.specs.Prelude.{◌≡◌, ℕ, ◌+◌, ◌⊎◌, Bool, true, false, List, Option, None, Some, MatchOption}
use Rattle.sched_history.specs.Machine.{Machine, kept_of}
use Rattle.sched_desk.specs.Handing.{ForgetsHeld, MarksHeld}
use Rattle.worker_sched.specs.Workplace.{HasEntered}
use Rattle.worker_sched.specs.Worker.{Stands, WorkerState, scheduler_of}
use Rattle.mapsched_c.specs.declared.status.TheConstants.{OK, EMPTY, NO_TICKET, NOT_SERVED, NO_TURN, KEEPS_ALL}
use Rattle.mapsched_c.specs.Journal.{lines_of, GivesTextOrNone}
use Rattle.mapsched_c.specs.Worker.{Held}

-- a worker with this ticket begins its turn, after entries of others alone, or is not served yet
abbrev pub BeginsWith : WorkerState → Stands → Held → ℕ → Type 0
BeginsWith w t new status =
    ((status ≡ OK) × (h : Stands) × (new ≡ Some (record w { ticket = None; entered = Some h })) × HasEntered t h)
    ⊎ ((status ≡ NOT_SERVED) × (new ≡ Some (record w { ticket = Some (record t { looks = t.looks + 1 }) })))

-- what the beginning of a turn answers
abbrev pub Begins : Held → Held → ℕ → Type 0
Begins None new status = (status ≡ EMPTY) × (new ≡ None)
Begins (Some w) new status = MatchOption w.ticket ((status ≡ NO_TICKET) × (new ≡ Some w))
    (λ t. BeginsWith w t new status)

-- the scheduler that a worker in its turn has entered
abbrev pub seen_by : Held → Option Machine
seen_by None = None
seen_by (Some w) = scheduler_of w

-- what is answered in a turn: that of the scheduler that is seen, or that there is no turn
abbrev pub status_in_turn : Option Machine → (Machine → ℕ) → ℕ
status_in_turn None answered = NO_TURN
status_in_turn (Some m) answered = answered m

-- what a look answers
abbrev pub look_status : Held → (Machine → ℕ) → ℕ
look_status None answered = EMPTY
look_status (Some w) answered = status_in_turn (scheduler_of w) answered

-- the lines of the entries that are kept are given to a worker in its turn; to another nothing is written
abbrev pub LooksAtLines : Held → ℕ → List ℕ → List ℕ → ℕ → ℕ → Type 0
LooksAtLines None status before after untold told = (status ≡ EMPTY) × (after ≡ before) × (told ≡ untold)
LooksAtLines (Some w) status before after untold told =
    MatchOption (scheduler_of w) ((status ≡ NO_TURN) × (after ≡ before) × (told ≡ untold))
    (λ m. GivesTextOrNone (lines_of (kept_of m)) status before after untold told)

-- the status of a turn in which what is kept was to be let go
abbrev pub forget_status : Bool → ℕ
forget_status true = OK
forget_status false = KEEPS_ALL

-- what the end of a turn answers that lets go of what is kept: the worker has its seat again
abbrev pub EndsForgetting : Held → Held → ℕ → Type 0
EndsForgetting None new status = (status ≡ EMPTY) × (new ≡ None)
EndsForgetting (Some w) new status = ((status ≡ NO_TURN) × (new ≡ Some w) × (w.entered ≡ None))
    ⊎ ((done : Bool) × (h : Stands) × (s : Stands) × (status ≡ forget_status done) × (w.entered ≡ Some h)
    × (new ≡ Some (record w { seat = Some s; entered = None })) × ForgetsHeld w.place.config h w.place.keeps s done)

-- what the end of a turn answers in which nothing changed
abbrev pub Ends : Held → Held → ℕ → Type 0
Ends None new status = (status ≡ EMPTY) × (new ≡ None)
Ends (Some w) new status = ((status ≡ NO_TURN) × (new ≡ Some w) × (w.entered ≡ None))
    ⊎ ((status ≡ OK) × (h : Stands) × (s : Stands) × (w.entered ≡ Some h)
    × (new ≡ Some (record w { seat = Some s; entered = None })) × MarksHeld w.place.config h false s)
