-- The entries so far are counted.
use Rattle.std.proofs.Common.{◌≡◌, take, sum, length}
use Rattle.ticket_core.specs.declared.TheConstants.{MAX_SEATS}
use Rattle.sched_desk.specs.Closed.{CountsEach}
use Rattle.sched_desk.proofs.counting.count_each.Given as goal

abbrev pub invariant-loop-entry : goal.invariant-loop-entry
invariant-loop-entry l = record {
  size : length l.counts ≡ MAX_SEATS;
  counts : CountsEach l.counts (take l.entry-index l.history);
  total : sum l.counts ≡ l.entry-index;
}
