-- The parts of a drawing, one after the other.
use Rattle.std.proofs.Common.{[], ◌++◌}
use Rattle.map_drawing.specs.Allocation.{front_of, frame_slots}
use Rattle.map_drawing.specs.Rows.{row_slots, rows_text}
use Rattle.map_drawing.specs.Legend.{legend_head, allocation_lines, behind_lines, drawing_text}
use Rattle.map_drawing.proofs.Ranges.{grown}
use Rattle.map_drawing.proofs.legend.draw_frame.Goals as goal

pub returns : goal.returns
unfolding drawing_text
returns c =
    let es = c.args.map.now.elements in
    let elements = c.as_slice-elements.ensures in
    let drawn = c.push_rows.new.text.items in
    let headed = c.extend_from_slice.new.self.items in
    let listed = c.push_allocations.new.text.items in
    let ended = c.push_all_behind.new.text.items in
    let rows = rw (
      c.front_of.ensures,
      c.frame_slots.ensures,
      c.slots_per_row.ensures,
      elements,
      c.new-text.ensures.items,
    )
    at c.in_ok-push_rows.ensures in
    let lines = rw elements at c.in_ok-push_allocations.ensures in
    let behind = rw (c.behind_of.ensures, elements) at c.in_ok-push_all_behind.ensures in
    grown [] drawn ended (rows_text (front_of es) (frame_slots es) (row_slots c.args.columns))
    (legend_head ++ (allocation_lines es ++ behind_lines es)) rows
    (grown drawn headed ended legend_head (allocation_lines es ++ behind_lines es)
    c.in_ok-extend_from_slice.ensures.items
    (grown headed listed ended (allocation_lines es) (behind_lines es) lines behind))
