-- The runs of the allocations gone through, which end where the next element begins.
use Rattle.std.proofs.Common.{◌≡◌, ◌≤◌, List}
use Rattle.sched_calls.specs.declared.reply.Entry.{Entry}
use Rattle.map_codec.specs.Element.{element_at}
use Rattle.map_drawing.specs.Allocation.{front_length}
use Rattle.frame_picture.specs.Frames.{is_unsolicited_after, TellsUnsolicited}
use Rattle.sched_report.specs.Gaps.{is_free_in, longest_run}
use Rattle.sched_report.proofs.Runs.{run_behind}
use Rattle.sched_report.proofs.SlotLists.{first_allocations}
use Rattle.sched_report.proofs.gaps.largest_gap.Given as goal

abbrev pub invariant-loop-i : goal.invariant-loop-i
invariant-loop-i l = record {
  end : l.i-end ≡ front_length l.elements;
  run : (h : List Entry) → TellsUnsolicited l.flows h
      → l.run ≡ run_behind (is_free_in l.met (is_unsolicited_after h)) 0 (first_allocations l.elements l.i);
  longest : (h : List Entry) → TellsUnsolicited l.flows h
      → l.longest ≡ longest_run (is_free_in l.met (is_unsolicited_after h)) (first_allocations l.elements l.i);
  within : l.run ≤ (element_at l.elements l.i).offset;
}
