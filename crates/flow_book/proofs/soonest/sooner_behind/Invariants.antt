-- The soonest of those gone through.
use Rattle.std.proofs.Common.{◌<◌, List, length, take}
use Rattle.flow_book.specs.declared.flow.Flow.{Flow}
use Rattle.flow_book.specs.Queue.{HasStartedPart, IsSoonest}
use Rattle.flow_book.proofs.soonest.sooner_behind.Given as goal

abbrev pub invariant-loop-index : goal.invariant-loop-index
invariant-loop-index l = record {
  best : (items : List Flow) → HasStartedPart l.config items l.tiers l.queue l.start
      → IsSoonest l.config items l.tiers (take l.index l.queue) l.queue l.start l.room.slots l.best.index l.best.turn;
  within : l.best.index < length l.queue;
}
