-- Schedules of the lock: any list of steps by any seats, those that cannot be taken passed over.
use Rattle.std.specs.Prelude.{◌≡◌, ℕ, ◌+◌, ◌≤◌, List, [], ◌∷◌, ◌++◌, Option, Some, None, length}
use Rattle.std.specs.List.{range_with_len}
use Rattle.ticket_core.specs.declared.SeatState.{SeatState}
use Rattle.ticket_core.specs.declared.SeatState.TheVariants.{Idle, Waiting, Holding}
use Rattle.ticket_core.specs.declared.Step.{Step}
use Rattle.ticket_core.specs.declared.Step.TheVariants.{Draw, Look, Enter, Leave}
use Rattle.ticket_core.specs.LockWorld.{LockWorld, opened_world, state_of}
use Rattle.ticket_core.specs.LockWorld.{world_after, HasTicket, Holds, IsLawful}

-- a step that a seat tries
pub record Move : Type 0 where
  pub seat : ℕ
  pub step : Step

-- how far a schedule has come: the world, and the ticket of each entry so far
pub record Run : Type 0 where
  pub world : LockWorld
  pub entered : List ℕ

-- a lock just opened, which nobody has entered
abbrev pub opened_run : ℕ → ℕ → Run
opened_run seats first = record { world = opened_world seats first; entered = [] }

-- the ticket that a seat in this state enters with by this step, if it enters
abbrev pub entry_of : SeatState → Step → List ℕ
entry_of Idle Draw = []
entry_of Idle Look = []
entry_of Idle Enter = []
entry_of Idle Leave = []
entry_of (Waiting ticket) Draw = []
entry_of (Waiting ticket) Look = []
entry_of (Waiting ticket) Enter = ticket ∷ []
entry_of (Waiting ticket) Leave = []
entry_of (Holding ticket) Draw = []
entry_of (Holding ticket) Look = []
entry_of (Holding ticket) Enter = []
entry_of (Holding ticket) Leave = []

-- the run in the world after a move; a move that cannot be taken is passed over
abbrev pub run_into : Run → Move → Option LockWorld → Run
run_into run move None = run
run_into run move (Some w) =
    record { world = w; entered = run.entered ++ entry_of (state_of run.world move.seat) move.step }

-- the run after one move
abbrev pub run_after : Run → Move → Run
run_after run move = run_into run move (world_after run.world move.seat move.step)

-- the run after a whole schedule
abbrev pub run_all : Run → List Move → Run
run_all run [] = run
run_all run (move ∷ moves) = run_all (run_after run move) moves

-- what every schedule of a lock opened with this first ticket keeps: one holder at most, who has the least
-- ticket in flight, and entries with the first ticket, the one after it and so on, up to the ticket served
-- or the holder's
pub record KeepsTurns (first : ℕ) (run : Run) : Type 0 where
  pub lawful : IsLawful run.world
  pub one_holder : (a b s t : ℕ) → Holds run.world a s → Holds run.world b t → a ≡ b
  pub holder_is_least : (a b s t : ℕ) → Holds run.world a s → HasTicket run.world b t → s ≤ t
  pub entered_in_turn : run.entered ≡ range_with_len first (length run.entered)
  pub all_left : ((seat ticket : ℕ) → Holds run.world seat ticket → ⊥)
      → first + length run.entered ≡ run.world.served
  pub all_but_holder : (seat ticket : ℕ) → Holds run.world seat ticket
      → first + length run.entered ≡ run.world.served + 1
