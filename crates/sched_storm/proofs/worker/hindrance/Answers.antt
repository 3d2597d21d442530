-- The gate let the worker pass.
use Rattle.sched_storm.proofs.worker.hindrance.Goals as goal

pub returns-then-pass : goal.returns-then-pass
returns-then-pass g c = c.pass.ensures.passes c.if-pass.true
