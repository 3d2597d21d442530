-- The line is that of the flows of which those gone through are as after the MAP, where it was that of those before.
use Rattle.std.proofs.Common.{List, map, drop}
use Rattle.minislots.specs.declared.config.Config.{Config}
use Rattle.flow_book.specs.declared.flow.Flow.{Flow}
use Rattle.flow_book.specs.Flows.{LiveFlow}
use Rattle.flow_book.specs.Entry.{live}
use Rattle.flow_book.specs.Mending.{AreServed}
use Rattle.flow_book.specs.Numbers.{IsLineOf}
use Rattle.flow_book.proofs.Mending.{IsMixed}
use Rattle.flow_book.proofs.line.Line.mend.Given as goal

abbrev pub invariant-loop-waiting : goal.invariant-loop-waiting
invariant-loop-waiting l = (c : Config) (items : List Flow) → AreServed c l.flows items l.served
    → IsLineOf (map live l.flows) l.initial.self
    → (mixed : List LiveFlow) × IsLineOf mixed l.self
    × IsMixed (map live l.flows) (map live items) (drop l.waiting-index l.served) mixed
