-- Nothing is counted at first.
use Rattle.std.proofs.Common.{List, replicate, sym, subst}
use Rattle.sched_desk.specs.declared.event.Event.{Event}
use Rattle.sched_desk.specs.Closed.{IsCounted}
use Rattle.sched_desk.specs.Events.{history_in}
use Rattle.sched_desk.proofs.Counts.{counted_none}
use Rattle.sched_desk.proofs.docket.Docket.new.Goals as goal

pub invariant_of-result : goal.invariant_of-result
invariant_of-result c =
    subst (λ (l : List Event). IsCounted (replicate 64 0) (history_in l)) (sym c.none.ensures) counted_none
