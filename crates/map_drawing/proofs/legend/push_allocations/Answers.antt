-- One line more.
use Rattle.std.proofs.Common.{ℕ}
use Rattle.map_drawing.specs.Allocation.{allocation_at}
use Rattle.map_drawing.specs.Legend.{allocation_line}
use Rattle.map_drawing.proofs.Ranges.{flat_map_step}
use Rattle.map_drawing.proofs.legend.push_allocations.Goals as goal

pub loop-i-preserved : goal.loop-i-preserved
loop-i-preserved c =
    flat_map_step (λ (i : ℕ). allocation_line i (allocation_at c.args.elements.now i)) c.loop-i.i _ _ _
    c.loop-i.invariant (rw c.allocation_at.ensures at c.in_ok-push_allocation.ensures)
