-- Those gone through that still wait may not be served.
use Rattle.std.proofs.Common.{List, filter, take}
use Rattle.std.specs.List.{AllByRecursion}
use Rattle.flow_book.specs.declared.flow.Flow.{Flow}
use Rattle.flow_book.specs.Queue.{HasStartedPart, IsPassed, still_waits}
use Rattle.flow_book.proofs.soonest.first_able.Given as goal

abbrev pub invariant-loop-index : goal.invariant-loop-index
invariant-loop-index l = (items : List Flow) → HasStartedPart l.config items l.tiers l.queue l.start
    → AllByRecursion (IsPassed l.config l.start l.room.slots items) (filter still_waits (take l.index l.queue))
