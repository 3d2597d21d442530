-- No phase tried so far has lawful starts, and the bounds are such.
use Rattle.periodic.specs.Rows.{AreBounds}
use Rattle.periodic.specs.Search.{NonePhase}
use Rattle.periodic.proofs.search.first_found.Given as goal

abbrev pub invariant-loop-phase : goal.invariant-loop-phase
invariant-loop-phase l = record {
  none : NonePhase l.config l.rows l.counts.starts l.wanted l.phase;
  bounded : AreBounds l.config l.rows l.widest.most;
}
