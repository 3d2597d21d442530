-- The frames gone through have their first starts.
use Rattle.std.proofs.Common.{◌≡◌, ℕ, ◌+◌, ◌*◌, ◌<◌, length}
use Rattle.periodic.specs.Placement.{group_at}
use Rattle.periodic.specs.Rows.{row_at}
use Rattle.periodic.specs.Search.{AreFirstIn, starts_of}
use Rattle.periodic.proofs.search.starts_at.Given as goal

abbrev pub invariant-loop-index : goal.invariant-loop-index
invariant-loop-index l = record {
  count : l.row.count ≡ l.index * l.wanted.grants;
  long : length (starts_of l.row) ≡ l.index * l.wanted.grants;
  each : (index : ℕ) → index < l.index → AreFirstIn l.config l.wanted l.offset
      (row_at l.config l.rows (l.phase + index * l.wanted.interval)) (group_at l.wanted.grants index (starts_of l.row));
}
