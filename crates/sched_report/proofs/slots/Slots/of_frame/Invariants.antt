-- The minislots of the allocations gone through, which end where the next element begins.
use Rattle.std.proofs.Common.{◌≡◌, ◌≤◌, List}
use Rattle.sched_calls.specs.declared.reply.Entry.{Entry}
use Rattle.map_codec.specs.Element.{element_at}
use Rattle.map_drawing.specs.Allocation.{front_length}
use Rattle.frame_picture.specs.Frames.{is_unsolicited_after, TellsUnsolicited}
use Rattle.sched_report.specs.Uses.{slots_among, all_slots}
use Rattle.sched_report.proofs.SlotLists.{first_allocations}
use Rattle.sched_report.proofs.slots.Slots.of_frame.Given as goal

abbrev pub invariant-loop-i : goal.invariant-loop-i
invariant-loop-i l = record {
  end : l.i-end ≡ front_length l.elements;
  value : (h : List Entry) → TellsUnsolicited l.flows h
      → l.slots ≡ slots_among l.met (is_unsolicited_after h) (first_allocations l.elements l.i);
  all : all_slots l.slots ≤ (element_at l.elements l.i).offset;
}
