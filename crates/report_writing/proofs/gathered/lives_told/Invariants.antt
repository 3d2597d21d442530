-- The numbers of the lives so far.
use Rattle.report_writing.specs.Gathered.{AreFew}
use Rattle.report_writing.proofs.Gathering.{AreFirstLives}
use Rattle.report_writing.proofs.gathered.lives_told.Given as goal

abbrev pub invariant-loop-place : goal.invariant-loop-place
invariant-loop-place l = AreFirstLives l.reporter l.lives.items l.place × AreFew l.lives.items
