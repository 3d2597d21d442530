-- The steps gone through are counted.
use Rattle.std.proofs.Common.{◌≡◌, take}
use Rattle.sched_report.specs.Steps.{upto}
use Rattle.sched_report.proofs.spread.Spread.upto.Given as goal

abbrev pub invariant-loop-step : goal.invariant-loop-step
invariant-loop-step l = l.count ≡ upto l.value (take l.step-index l.self.steps.items)
