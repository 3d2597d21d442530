-- Those from the last on stand around what is left of the gap.
use Rattle.std.proofs.Common.{◌≡◌, ◌<◌, ◌≤◌, ◌+◌, ◌-◌, length, drop, take, get_or}
use Rattle.std.specs.List.{AllByRecursion}
use Rattle.flow_book.specs.declared.waiting.Waiting.{Waiting}
use Rattle.flow_book.specs.Gap.{around, all_put_in}
use Rattle.flow_book.proofs.gap.fill_gap.Given as goal

abbrev pub invariant-loop-index : goal.invariant-loop-index
invariant-loop-index l = record {
  within : l.first ≤ l.fn.first;
  long : length l.queue ≡ length l.fn.queue;
  around : around l.first l.index l.queue ≡ all_put_in (drop l.index l.ones) (take l.fn.first l.fn.queue);
  front : take l.first l.queue ≡ take l.first l.fn.queue;
  behind : (d : Waiting) → 0 < l.index
      → AllByRecursion (λ w. (get_or l.ones (l.index - 1) d).turn < w.turn) (drop (l.first + l.index) l.queue);
}
