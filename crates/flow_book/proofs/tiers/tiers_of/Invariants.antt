-- Those gone through have their tiers.
use Rattle.flow_book.proofs.Numbered.{IsNumbered}
use Rattle.flow_book.proofs.tiers.tiers_of.Given as goal

abbrev pub invariant-loop-index : goal.invariant-loop-index
invariant-loop-index l = IsNumbered l.flows l.fn.queue l.queue l.tiers.items l.index
