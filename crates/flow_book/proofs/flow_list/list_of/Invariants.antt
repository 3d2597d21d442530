-- The list of the flows gone through.
use Rattle.std.proofs.Common.{◌≡◌, map, take}
use Rattle.flow_book.specs.Entry.{live}
use Rattle.flow_book.proofs.flow_list.list_of.Given as goal

abbrev pub invariant-loop-place : goal.invariant-loop-place
invariant-loop-place l = l.list.items ≡ take l.place (map live l.flows)
