-- The state that the calls of a script leave, shown.
use Rattle.std.proofs.Common.{◌≡◌, ℕ, ◌+◌, List, length, Option, ap}
use Rattle.sched_calls.specs.declared.call.Call.{Call}
use Rattle.sched_calls.specs.Reply.{Answer}
use Rattle.sched_history.specs.Answer.{MakesCalls}
use Rattle.sched_history.specs.Machine.{Machine}
use Rattle.sched_history.proofs.runs.Leaving.{MakesCalls-count}
use Rattle.sched_history.proofs.runs.Made.{MakesCalls-legal}
use Rattle.state_command.specs.Script.{LeavesState}
use Rattle.state_command.specs.States.{ShowsAfter}
use Rattle.state_command.specs.declared.form.StateForm.{StateForm}

-- all calls were made, and the state of the scheduler was shown
pub leaves : (form : StateForm) (old new : Machine) (calls : List Call) (answers : List Answer)
    (before after : Option (List ℕ)) (unrecorded : ℕ) → MakesCalls old new calls answers
    → ShowsAfter form old.config new.history before after → unrecorded + length new.history ≡ length calls
    → LeavesState form old.config calls before after unrecorded
leaves form old new calls answers before after unrecorded makes shown count = record {
  answers = answers;
  each = makes.each;
  legal = MakesCalls-legal old new calls answers makes;
  shown = rw (ap (λ (m : Machine). m.history) makes.state) at shown;
  count = MakesCalls-count old new calls answers unrecorded makes count;
}
