-- The numbers of those gone through that still wait are put behind.
use Rattle.std.proofs.Common.{◌≡◌, ◌++◌, map, filter, take}
use Rattle.flow_book.specs.Queue.{still_waits}
use Rattle.flow_book.specs.Pending.{number_at}
use Rattle.flow_book.proofs.line.push_numbers.Given as goal

abbrev pub invariant-loop-waiting : goal.invariant-loop-waiting
invariant-loop-waiting l =
    l.numbers.items
    ≡ l.initial.numbers.items ++ map (number_at l.flows) (filter still_waits (take l.waiting-index l.part))
