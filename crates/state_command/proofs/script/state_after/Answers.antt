-- The calls are made, and the state that they leave is shown.
use Rattle.std.proofs.Common.{◌≡◌, ap}
use Rattle.sched_history.specs.Machine.{Machine}
use Rattle.sched_history.proofs.runs.Leaving.{MakesCalls-few}
use Rattle.state_command.proofs.Leaving.{leaves}
use Rattle.state_command.proofs.script.state_after.Goals as goal

pub count_unrecorded-requires : goal.count_unrecorded-requires
count_unrecorded-requires g c =
    MakesCalls-few _ _ c.args.calls.now c.make_calls.ensures.0 c.make_calls.ensures.1

pub returns-clause-ok : goal.returns-clause-ok
returns-clause-ok g c =
    let makes = c.make_calls.ensures in
    let same : c.make_calls.new.scheduler.config ≡ c.args.scheduler.now.config =
    ap (λ (m : Machine). m.config) makes.1.state in
    leaves c.args.form c.args.scheduler.now c.make_calls.new.scheduler c.args.calls.now makes.0 _ _ _ makes.1
    (rw (c.requires.same, c.in-Ok.ensures, same) at c.in_ok-put_state.ensures.ok) c.count_unrecorded.ensures
