-- The samples of the lives that are left come behind what is written.
use Rattle.std.proofs.Common.{◌≡◌, ◌++◌, drop}
use Rattle.report_writing.specs.LifeMetrics.{samples_from}
use Rattle.report_writing.proofs.metrics.lives.push_samples.Given as goal

abbrev pub invariant-loop-place : goal.invariant-loop-place
invariant-loop-place l =
    l.words.items ++ samples_from l.ticks l.metric l.place (drop l.place l.lives)
    ≡ l.initial.words.items ++ samples_from l.ticks l.metric 0 l.lives
