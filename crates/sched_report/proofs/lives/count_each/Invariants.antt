-- The lives have the unsolicited grants among the allocations gone through.
use Rattle.std.proofs.Common.{◌≡◌, []}
use Rattle.std.specs.Prelude.{sum_by}
use Rattle.minislots.specs.declared.config.Config.{Config}
use Rattle.map_drawing.specs.Allocation.{front_length}
use Rattle.sched_report.specs.Granted.{HaveMore}
use Rattle.sched_report.specs.Said.{unsolicited_at}
use Rattle.sched_report.proofs.SlotLists.{first_allocations}
use Rattle.sched_report.proofs.lives.count_each.Given as goal

abbrev pub invariant-loop-i : goal.invariant-loop-i
invariant-loop-i l = record {
  end : l.i-end ≡ front_length l.elements;
  more : (c : Config) → HaveMore c (λ sid. []) l.i
      (λ spec sid. sum_by (unsolicited_at l.met spec sid) (first_allocations l.elements l.i)) l.initial.lives l.lives;
}
