-- Each of the two is counted.
use Rattle.std.proofs.Common.{ℕ, List, sym, subst}
use Rattle.flow_book.specs.declared.standing.Standing.TheVariants.{UnderReservation, AtCeiling}
use Rattle.sched_report.specs.Waits.{MayCountWaits}
use Rattle.sched_report.proofs.waits.Waited.count.Goals as goal

pub returns : goal.returns
returns c = λ k p h may.
    let ts = c.args.lives.now in
    let old = c.args.self.now in
    let e = c.args.entry.now in
    record {
      under = c.count_waits.ensures UnderReservation k p h
          (subst (λ (sids : List ℕ). MayCountWaits UnderReservation k p h ts old.under.items sids e)
          (sym c.deref.ensures.value) may.under);
      held = c.count_waits-2.ensures AtCeiling k p h
          (subst (λ (sids : List ℕ). MayCountWaits AtCeiling k p h ts old.held.items sids e)
          (sym c.deref-2.ensures.value) may.held);
    }
