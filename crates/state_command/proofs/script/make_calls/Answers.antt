-- Each call leads the run one step on.
use Rattle.std.proofs.Common.{◌++◌, ◌∷◌, []}
use Rattle.sched_history.specs.Answer.{answer_in}
use Rattle.sched_history.proofs.runs.Made.{MakesCalls-push, MakesCalls-handed}
use Rattle.state_command.proofs.script.make_calls.Goals as goal

pub loop-place-preserved : goal.loop-place-preserved
loop-place-preserved c =
    let at = c.loop-place in
    let before = at.invariant in
    let one = c.record_call in (
      before.0 ++ answer_in one.result ∷ [],
      MakesCalls-push _ _ _ c.args.calls.now at.place _ before.0 (answer_in one.result)
          c.loop-place-test.true before.1 one.follows.holds-at-none,
    )

pub record_call-requires : goal.record_call-requires
record_call-requires c = MakesCalls-handed _ _ _ c.loop-place.invariant.0 c.loop-place.invariant.1
