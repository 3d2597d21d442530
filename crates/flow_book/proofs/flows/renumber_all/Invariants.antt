-- The slots gone through are put right.
use Rattle.std.proofs.Common.{◌≡◌, ◌++◌, map, take, drop}
use Rattle.flow_book.specs.Slots.{moved}
use Rattle.flow_book.proofs.flows.renumber_all.Given as goal

abbrev pub invariant-loop-slot : goal.invariant-loop-slot
invariant-loop-slot l =
    l.order ≡ map (moved l.from l.to) (take l.slot-index l.fn.order) ++ drop l.slot-index l.fn.order
