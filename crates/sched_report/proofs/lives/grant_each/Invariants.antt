-- The lives have the data grants of the elements gone through.
use Rattle.sched_report.proofs.Fronts.{first_grants}
use Rattle.sched_report.specs.Granted.{HaveMore}
use Rattle.sched_report.proofs.lives.grant_each.Given as goal

abbrev pub invariant-loop-i : goal.invariant-loop-i
invariant-loop-i l = HaveMore l.config (λ sid. first_grants sid l.start l.elements l.counts l.i) 0 (λ spec sid. 0)
    l.initial.lives l.lives
