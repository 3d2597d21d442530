-- Each call leads the run one step on, and what waits at the end is written.
use Rattle.std.proofs.Common.{◌∙◌}
use Rattle.std.proofs.lemmas.List.{take_all}
use Rattle.sched_history.proofs.runs.Leaving.{MakesCalls-few}
use Rattle.sched_history.proofs.runs.Made.{MakesCalls-handed}
use Rattle.pcap_command.specs.Items.{item_of}
use Rattle.pcap_command.proofs.OnWire.{Runs-push, Runs-written, whole-run}
use Rattle.pcap_command.proofs.run.run_calls.Goals as goal

pub loop-place-preserved : goal.loop-place-preserved
loop-place-preserved g c =
    let at = c.loop-place in (
      Runs-push (item_of c.args.output c.args.config.now c.args.address.now) _ _ _ c.args.calls.now at.place _
          c.make_call-answer.result _ _ _ c.loop-place-test.true at.invariant.0
          c.make_call-answer.ensures.made c.in_ok-put_answer.ensures.0,
      c.in_ok-put_answer.ensures.1 ∙ at.invariant.1,
    )

pub make_call-answer-requires : goal.make_call-answer-requires
make_call-answer-requires g c =
    let runs = c.loop-place.invariant.0 in
    MakesCalls-handed _ _ _ runs.answers runs.makes

pub count_unrecorded-requires : goal.count_unrecorded-requires
count_unrecorded-requires g c =
    let at = c.loop-place in
    let runs = at.invariant.0 in
    MakesCalls-few _ _ c.args.calls.now runs.answers
    (rw (take_all at.place c.args.calls.now c.loop-place-test.false) at runs.makes)

pub returns-clause-ok : goal.returns-clause-ok
returns-clause-ok g c =
    let at = c.loop-place in
    let item = item_of c.args.output c.args.config.now c.args.address.now in
    whole-run c.args.output c.args.config.now c.args.address.now _ _ c.args.calls.now at.place _ _ _ _ c.requires.same
    c.loop-place-test.false (rw c.new-buffer.ensures at c.in_ok-put_head.ensures.0)
    (Runs-written item _ _ _ _ _ _ _ at.invariant.0 c.in_ok-write_out.ensures.written.0)
    c.count_unrecorded.ensures
