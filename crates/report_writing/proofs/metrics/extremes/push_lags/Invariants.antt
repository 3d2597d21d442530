-- The lags so far stand behind the text.
use Rattle.std.proofs.Common.{◌≡◌, ◌++◌, flat_map}
use Rattle.std.specs.List.{range_with_len}
use Rattle.report_writing.specs.ExtremeMetrics.{lag_sample, lagging}
use Rattle.report_writing.proofs.metrics.extremes.push_lags.Given as goal

abbrev pub invariant-loop-receiver : goal.invariant-loop-receiver
invariant-loop-receiver l = record {
  end : l.receiver-end ≡ lagging l.extremes.margin l.receivers;
  text : l.words.items ≡ l.initial.words.items
      ++ flat_map (lag_sample l.ticks l.extremes.lags) (range_with_len 0 l.receiver);
}
