-- The lags before this receiver are raised, and the others are as they were.
use Rattle.std.proofs.Common.{◌≡◌, ◌-◌, ◌<◌, ◌≤◌, ℕ, length}
use Rattle.std.specs.Prelude.{max, slice_index}
use Rattle.sched_report.specs.Extremes.{most_receivers}
use Rattle.sched_report.proofs.lags.raise_lags.Given as goal

abbrev pub invariant-loop-receiver : goal.invariant-loop-receiver
invariant-loop-receiver l = record {
  long : length l.lags ≡ most_receivers;
  raised : (k : ℕ) → k < l.receiver → slice_index l.lags k
      ≡ max (slice_index l.initial.lags k) (l.start - slice_index l.progress k);
  same : (k : ℕ) → l.receiver ≤ k → slice_index l.lags k ≡ slice_index l.initial.lags k;
}
