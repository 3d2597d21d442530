-- What was behind stands in each place gone through, and all others are as they were.
use Rattle.std.proofs.Common.{◌≡◌, ℕ, ◌*◌, ◌<◌, ◌≤◌, length, slice_index_or}
use Rattle.report_picture.proofs.over_time.join.Given as goal

abbrev pub invariant-loop-i : goal.invariant-loop-i
invariant-loop-i g l = record {
  long : length l.row ≡ 801;
  joined : (j : ℕ) (t : g.row.T.Denot) → j < l.i → slice_index_or l.row j t ≡ slice_index_or l.initial.row (2 * j) t;
  same : (j : ℕ) (t : g.row.T.Denot) → l.i ≤ j → slice_index_or l.row j t ≡ slice_index_or l.initial.row j t;
}
