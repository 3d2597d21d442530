-- The SIDs of those gone through.
use Rattle.std.proofs.Common.{◌≡◌, map, take}
use Rattle.flow_book.specs.Line.{sid_of}
use Rattle.flow_book.proofs.shown.sids_of.Given as goal

abbrev pub invariant-loop-number : goal.invariant-loop-number
invariant-loop-number l = l.sids.items ≡ map sid_of (take l.number-index l.numbers)
