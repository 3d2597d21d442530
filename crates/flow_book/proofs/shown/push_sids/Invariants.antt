-- The SIDs of those gone through that still wait are put behind.
use Rattle.std.proofs.Common.{◌≡◌, ◌++◌, map, filter, take}
use Rattle.flow_book.specs.Queue.{still_waits}
use Rattle.flow_book.specs.Pending.{sid_at}
use Rattle.flow_book.proofs.shown.push_sids.Given as goal

abbrev pub invariant-loop-one : goal.invariant-loop-one
invariant-loop-one l =
    l.sids.items ≡ l.initial.sids.items ++ map sid_at (filter still_waits (take l.one-index l.part))
