-- A build is planned and committed.
use Rattle.std.proofs.Common.{Some, sym, ap, ◌∙◌}
use Rattle.sched_history.proofs.scheduler.state.State.build.Goals as goal

pub plan_frame-requires : goal.plan_frame-requires
plan_frame-requires c = (c.args._now, c.requires.0, c.requires.1)

pub commit-requires : goal.commit-requires
commit-requires c =
    let now = c.args._now in
    let x = c.requires.0 in
    rw c.plan_frame.ensures.same (now, x, c.requires.1, c.in_ok-frame.ensures.fits now x c.requires.1)

pub returns-clause-answered : goal.returns-clause-answered
returns-clause-answered c = λ x opens.
    let now = c.args._now in
    (rw c.plan_frame.ensures.same at c.commit.ensures.answered) now x opens (c.in_ok-frame.ensures.fits now x opens)

pub returns-clause-copied : goal.returns-clause-copied
returns-clause-copied c = λ is. c.in_ok-copy.ensures is ∙ ap (λ r. Some r) (sym c.commit.ensures.built)
