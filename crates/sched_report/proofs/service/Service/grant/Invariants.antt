-- The requests that were served so far, and their delays.
use Rattle.std.proofs.Common.{◌≡◌, ℕ, ◌+◌, ◌-◌, ◌≤◌, List, ◌++◌, map, length}
use Rattle.std.specs.List.{AllByRecursion}
use Rattle.std.specs.Prelude.{vec_len, vec_capacity}
use Rattle.std.specs.VecDeque.{deque_len}
use Rattle.sched_report.specs.declared.service.Waiting.{Waiting}
use Rattle.sched_report.specs.Delays.{AreDelays}
use Rattle.sched_report.specs.Steps.{AreStepsOf}
use Rattle.sched_report.proofs.service.Service.grant.Given as goal

abbrev pub invariant-loop-mark : goal.invariant-loop-mark
invariant-loop-mark l = record {
  asks : l.self.asks ≡ l.initial.self.asks;
  asked : l.self.asked ≡ l.initial.self.asked;
  granted : l.self.granted ≡ l.initial.self.granted;
  replaced : l.self.replaced ≡ l.initial.self.replaced;
  passed : List Waiting;
  passes : l.initial.self.waiting.items ≡ passed ++ l.self.waiting.items;
  reached : AllByRecursion (λ m. m.upto ≤ l.self.granted) passed;
  delays : (delays : List ℕ) → AreDelays l.initial.self.delays delays
      → AreDelays l.self.delays (delays ++ map (λ m. l.end - m.heard) passed);
  steps : (ns : List ℕ) → AreStepsOf l.initial.self.spread.steps.items ns
      → AreStepsOf l.self.spread.steps.items (ns ++ map (λ m. l.end - m.heard) passed);
  room : vec_len l.self.spread.steps + deque_len l.self.waiting ≤ vec_capacity l.self.spread.steps;
  few : l.self.delays.served + length l.self.waiting.items
      ≡ l.initial.self.delays.served + length l.initial.self.waiting.items;
}

abbrev pub decreases-loop-mark : goal.decreases-loop-mark
decreases-loop-mark l = length l.self.waiting.items
