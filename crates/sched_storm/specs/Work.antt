-- What one worker of a storm makes of its script with the seat that it is given.
use Rattle.std.specs.Prelude.{◌≡◌, ◌<◌, ◌+◌, ℕ, Bool, List, [], ◌∷◌, length}
use mathlib.Core.List.{IsPrefix}
use Rattle.minislots.specs.declared.config.Config.{Config}
use Rattle.sched_calls.specs.declared.call.Call.{Call}
use Rattle.ticket_lock.specs.Standing.{Standing}
use Rattle.sched_desk.specs.declared.event.Event.{Event}
use Rattle.sched_desk.specs.Desk.{FixedDesk, history_seen}
use Rattle.sched_storm.specs.declared.worker.Ended.{Ended}
use Rattle.sched_storm.specs.declared.worker.Ended.TheVariants.{Done, Held, Stopped}
use Rattle.sched_storm.specs.Made.{MadeCall, is_recorded, calls_made, left_out_count, Leads}

-- by making these calls, and no others in between, a seat came from the first standing to the second: each call, also
-- one that was not recorded, is a turn that it ended
pub record Makes (c : Config) (s w : Standing FixedDesk Event) (made : List MadeCall) : Type 0 where
  pub lock_is : w.lock ≡ s.lock
  pub number_is : w.number ≡ s.number
  pub turns_is : w.turns ≡ s.turns + length made
  pub leads : Leads c s.number (history_seen s) made (history_seen w)

-- by making this call, which was recorded or not, a seat came from the first standing to the second
pub record MakesOne (c : Config) (s w : Standing FixedDesk Event) (call : Call) (recorded : Bool) : Type 0 where
  pub made : MadeCall
  pub call_is : made.call ≡ call
  pub recorded_is : is_recorded made ≡ recorded
  pub makes : Makes c s w (made ∷ [])

-- what hinders a worker from its next call: its gate, which holds it, or a stop of the storm, where a thread was not
-- started
abbrev pub Hinders : Type 0 → Type 0 → Ended → Type 0
Hinders lacks held Done = ⊥
Hinders lacks held Held = held
Hinders lacks held Stopped = lacks

-- how a worker ended that made so many calls of a script of this length: it made all, or it was hindered
abbrev pub EndsSo : Type 0 → Type 0 → ℕ → ℕ → Ended → Type 0
EndsSo lacks held made calls Done = made ≡ calls
EndsSo lacks held made calls Held = (made < calls) × held
EndsSo lacks held made calls Stopped = lacks

-- the worker with this seat made calls of its script under a gate of which this is so where it lets a worker pass to
-- the call at a place, this where it does not, and this where a thread was not started
pub record HasWorked (passes holds : ℕ → ℕ → Type 0) (lacks : Type 0) (c : Config) (s : Standing FixedDesk Event)
    (script : List Call) (w : Standing FixedDesk Event) (unrecorded : ℕ) (ended : Ended) : Type 0 where
  pub made : List MadeCall
  pub makes : Makes c s w made
  pub front : IsPrefix (calls_made made) script
  -- so many of them were not recorded
  pub unrecorded_is : unrecorded ≡ left_out_count made
  -- the gate let it pass before each, and it ended so
  pub passed : (place : ℕ) → place < length made → passes s.number place
  pub ends : EndsSo lacks (holds s.number (length made)) (length made) (length script) ended
