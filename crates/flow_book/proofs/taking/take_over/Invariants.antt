-- The flows at the places gone through are those after the MAP.
use Rattle.std.proofs.Common.{◌≡◌, List, length, map, take}
use Rattle.minislots.specs.declared.config.Config.{Config}
use Rattle.flow_book.specs.declared.flow.Flow.{Flow}
use Rattle.flow_book.specs.Entry.{live}
use Rattle.flow_book.specs.Taking.{CanBeTaken}
use Rattle.flow_book.proofs.TakenOver.{IsPart}
use Rattle.flow_book.proofs.taking.take_over.Given as goal

abbrev pub invariant-loop-waiting : goal.invariant-loop-waiting
invariant-loop-waiting l = record {
  long : length l.flows ≡ length l.initial.flows;
  part : (c : Config) (items : List Flow) → CanBeTaken c l.initial.flows items l.tiers l.served
      → map live items ≡ l.after.items → IsPart l.initial.flows items (take l.waiting-index l.served) l.flows;
}
