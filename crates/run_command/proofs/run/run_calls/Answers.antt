-- Each call leads the run one step on, and the lines that wait at the end are written.
use Rattle.std.proofs.Common.{◌∙◌}
use Rattle.std.proofs.lemmas.List.{take_all}
use Rattle.run_command.specs.Run.{line_with}
use Rattle.sched_history.specs.Answer.{answer_in}
use Rattle.sched_history.proofs.runs.Leaving.{MakesCalls-few}
use Rattle.run_command.proofs.Running.{Runs-push, Runs-written, Runs-whole}
use Rattle.sched_history.proofs.runs.Made.{MakesCalls-handed}
use Rattle.run_command.proofs.run.run_calls.Goals as goal

pub loop-place-preserved : goal.loop-place-preserved
loop-place-preserved g c =
    let at = c.loop-place in (
      Runs-push (line_with c.args.words) _ _ _ c.args.calls.now at.place _ (answer_in c.record_call-answer.result) _ _ _
          c.loop-place-test.true at.invariant.0
          c.record_call-answer.follows.holds-at-none c.in_ok-put_answer.ensures.0,
      c.in_ok-put_answer.ensures.1 ∙ at.invariant.1,
    )

pub count_unrecorded-requires : goal.count_unrecorded-requires
count_unrecorded-requires g c =
    let at = c.loop-place in
    let runs = at.invariant.0 in
    MakesCalls-few _ _ c.args.calls.now runs.answers
    (rw (take_all at.place c.args.calls.now c.loop-place-test.false) at runs.makes)

pub returns-clause-ok : goal.returns-clause-ok
returns-clause-ok g c =
    let at = c.loop-place in
    Runs-whole c.args.words _ _ c.args.calls.now at.place _ _ _ c.loop-place-test.false
    (Runs-written (line_with c.args.words) _ _ _ _ _ _ _ at.invariant.0 c.in_ok-write_out.ensures.written.0)
    c.count_unrecorded.ensures

pub record_call-answer-requires : goal.record_call-answer-requires
record_call-answer-requires g c =
    let runs = c.loop-place.invariant.0 in
    MakesCalls-handed _ _ _ runs.answers runs.makes
