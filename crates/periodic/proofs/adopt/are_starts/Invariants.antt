-- The frames gone through have lawful starts.
use Rattle.std.proofs.Common.{ℕ, ◌+◌, ◌*◌, ◌<◌}
use Rattle.periodic.specs.Placement.{group_at}
use Rattle.periodic.specs.Rows.{row_at}
use Rattle.periodic.specs.Search.{AreStartsIn}
use Rattle.periodic.proofs.adopt.are_starts.Given as goal

abbrev pub invariant-loop-index : goal.invariant-loop-index
invariant-loop-index l = (index : ℕ) → index < l.index → AreStartsIn l.config l.wanted l.offset
    (row_at l.config l.rows (l.phase + index * l.wanted.interval)) (group_at l.wanted.grants index l.starts)
