-- What the command reads and writes of a script.
use Rattle.std.specs.Prelude.{◌≡◌, ℕ, ◌+◌, List, [], length, Option}
use Rattle.minislots.specs.declared.config.Config.{Config}
use Rattle.sched_calls.specs.declared.call.Call.{Call}
use Rattle.sched_calls.specs.Reply.{Answer}
use Rattle.sched_history.specs.Answer.{MayGetEach, recorded_entries}
use Rattle.sched_history.specs.History.{IsLegal}
use Rattle.script_reading.specs.Script.{Scenario}
use Rattle.script_reading.specs.Outcome.{StandsFor}
use Rattle.state_command.specs.declared.form.StateForm.{StateForm}
use Rattle.state_command.specs.States.{ShowsAfter}

-- The calls are made one after the other on a scheduler without entries: the recorded ones make a legal history, call i
-- with seat 0 and ticket i, and the state after it was shown. So many of them were not recorded
pub record LeavesState (form : StateForm) (c : Config) (calls : List Call) (before after : Option (List ℕ))
    (unrecorded : ℕ) : Type 0 where
  pub answers : List Answer
  pub each : MayGetEach c [] 0 calls answers
  pub legal : IsLegal c (recorded_entries 0 calls answers)
  pub shown : ShowsAfter form c (recorded_entries 0 calls answers) before after
  pub count : unrecorded + length (recorded_entries 0 calls answers) ≡ length calls

-- The reader's bytes are a script, and the state after its recorded calls was shown, and nothing else
pub record RanToState (form : StateForm) (unread left before after : Option (List ℕ)) (unrecorded : ℕ) : Type 0 where
  pub scenario : Scenario
  pub read : StandsFor unread left scenario
  pub leaves : LeavesState form scenario.config scenario.calls before after unrecorded
