-- The lines of the allocations, one after the other.
use Rattle.std.proofs.Common.{◌≡◌, ◌++◌, flat_map}
use Rattle.std.specs.List.{range_with_len}
use Rattle.map_drawing.specs.Allocation.{allocation_at}
use Rattle.map_drawing.specs.Legend.{allocation_line}
use Rattle.map_drawing.proofs.legend.push_allocations.Given as goal

-- the lines so far stand behind the text
abbrev pub invariant-loop-i : goal.invariant-loop-i
invariant-loop-i l =
    l.text.items ≡ l.initial.text.items
    ++ flat_map (λ i. allocation_line i (allocation_at l.elements i)) (range_with_len 0 l.i)
