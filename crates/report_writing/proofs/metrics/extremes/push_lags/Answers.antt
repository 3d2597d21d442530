-- One lag more, up to all of them.
use Rattle.std.proofs.Common.{ℕ, ◌++◌, Ok, flat_map, ap, ◌∙◌, arith}
use Rattle.std.specs.List.{range_with_len}
use Rattle.report_writing.specs.ExtremeMetrics.{lag_sample, lags_metrics}
use Rattle.report_writing.proofs.Appended.{then_ok, one_more}
use Rattle.report_writing.proofs.metrics.extremes.push_lags.Goals as goal

pub loop-receiver-preserved : goal.loop-receiver-preserved
loop-receiver-preserved c = record {
  end = c.loop-receiver.invariant.end;
  text = one_more (lag_sample c.args.ticks c.args.extremes.now.lags) c.loop-receiver.receiver _ _ _
      c.loop-receiver.invariant.text c.in_ok-push_lag.ensures;
}

pub returns : goal.returns
unfolding lags_metrics
returns c =
    let start = c.args.words.now.items in
    let first = c.push_heading.new.words.items in
    let end = c.loop-receiver.words.items in
    then_ok {E = ℕ} (Ok tt) start first end _ _ c.in_ok-push_heading.ensures
    (c.loop-receiver.invariant.text
    ∙ ap (λ n. first ++ flat_map (lag_sample c.args.ticks c.args.extremes.now.lags) (range_with_len 0 n)) (omega arith))
