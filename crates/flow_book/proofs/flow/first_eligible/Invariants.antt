-- The first of those gone through, which keeps its sums.
use Rattle.std.proofs.Common.{map, take, option_map, option_copied, ◌≤◌}
use Rattle.std.specs.Prelude.{IfSome}
use Rattle.flow_book.specs.Flows.{HaveStartedBy}
use Rattle.flow_book.specs.Choice.{IsNextOf}
use Rattle.flow_book.specs.Flows.{granted}
use Rattle.flow_book.specs.Entry.{live, KeepsSums}
use Rattle.flow_book.proofs.flow.first_eligible.Given as goal

abbrev pub invariant-loop-place : goal.invariant-loop-place
invariant-loop-place l = record {
  next : IsNextOf l.config l.start l.room (map live (take l.place l.flows))
      (option_map live (option_copied l.next));
  sums : IfSome l.next (λ n. KeepsSums l.config n.now);
  within : IfSome l.next (λ n. granted (live n.now) ≤ n.now.asked);
  started : IfSome l.next (λ n. HaveStartedBy l.start n.now.grants.items);
}
