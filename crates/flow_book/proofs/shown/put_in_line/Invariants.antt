-- The numbers of those gone through that still wait are put in.
use Rattle.std.proofs.Common.{◌≡◌, ℕ, List, map, filter, take}
use Rattle.flow_book.specs.Line.{IsInOrder, sorted_into}
use Rattle.flow_book.specs.Pending.{number_at}
use Rattle.flow_book.specs.Queue.{still_waits}
use Rattle.flow_book.proofs.shown.put_in_line.Given as goal

abbrev pub invariant-loop-waiting : goal.invariant-loop-waiting
invariant-loop-waiting l = record {
  order : IsInOrder l.line.items;
  kept : (whole : List ℕ) → l.fn.line.items ≡ take l.most whole → l.line.items ≡ take l.most
      (sorted_into whole (map (number_at l.flows) (filter still_waits (take l.waiting-index l.part))));
}
