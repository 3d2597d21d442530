-- The frame is planned, and its MAP copied.
use Rattle.sched_history.proofs.scheduler.state.State.plan.Goals as goal

pub plan_frame-requires : goal.plan_frame-requires
plan_frame-requires c = (c.args.now, c.requires.0, c.requires.1)

pub returns-clause-fits : goal.returns-clause-fits
returns-clause-fits c = λ x opens. c.in_ok-frame.ensures.fits c.args.now x opens
