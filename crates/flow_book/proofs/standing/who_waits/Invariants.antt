-- The SIDs of those gone through that wait and stand so.
use Rattle.std.proofs.Common.{◌≡◌, map, filter, take}
use Rattle.flow_book.specs.Entry.{live}
use Rattle.flow_book.specs.Standing.{waits_so}
use Rattle.flow_book.proofs.standing.who_waits.Given as goal

abbrev pub invariant-loop-place : goal.invariant-loop-place
invariant-loop-place l =
    l.sids.items ≡ map (λ f. f.sid) (filter (waits_so l.standing l.config l.start) (map live (take l.place l.flows)))
