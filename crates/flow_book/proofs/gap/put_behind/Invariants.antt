-- Those that moved stand around the gap as before.
use Rattle.std.proofs.Common.{◌≡◌, ◌<◌, ◌≤◌, ◌+◌, length, take, drop}
use Rattle.std.specs.List.{AllByRecursion}
use Rattle.flow_book.specs.Gap.{around}
use Rattle.flow_book.proofs.gap.put_behind.Given as goal

abbrev pub invariant-loop-first : goal.invariant-loop-first
invariant-loop-first l = record {
  within : l.first ≤ l.fn.first;
  around : around l.first l.gap l.queue ≡ around l.fn.first l.gap l.fn.queue;
  front : take l.first l.queue ≡ take l.first l.fn.queue;
  behind : AllByRecursion (λ w. l.one.turn < w.turn) (drop (l.first + l.gap) l.queue);
  long : length l.queue ≡ length l.fn.queue;
}

abbrev pub decreases-loop-first : goal.decreases-loop-first
decreases-loop-first l = l.first
