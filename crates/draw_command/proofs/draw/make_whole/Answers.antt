-- Each call leads the run one step on.
use Rattle.std.proofs.Common.{sym, ◌∙◌}
use Rattle.draw_command.proofs.Drawing.{MakesWhole-push}
use Rattle.sched_history.proofs.runs.Made.{MakesCalls-handed}
use Rattle.draw_command.proofs.draw.make_whole.Goals as goal

pub loop-place-preserved : goal.loop-place-preserved
loop-place-preserved c =
    let at = c.loop-place in
    let one = c.make_call-answer in
    MakesWhole-push _ _ _ c.args.calls.now at.place _ one.result c.loop-place-test.true at.invariant one.ensures.made
    (sym c.lacks_memory.ensures ∙ c.if-lacks_memory.false)

pub make_call-answer-requires : goal.make_call-answer-requires
make_call-answer-requires c =
    let whole = c.loop-place.invariant in
    MakesCalls-handed _ _ _ whole.answers whole.makes
