-- One text behind another.
use Rattle.report_writing.specs.ExtremeMetrics.{extremes_metrics}
use Rattle.report_writing.proofs.Appended.{then_ok}
use Rattle.report_writing.proofs.metrics.extremes.push_extremes.Goals as goal

pub returns : goal.returns
unfolding extremes_metrics
returns c =
    let r = c.push_lags.result in
    let start = c.args.words.now.items in
    let first = c.push_most.new.words.items in
    let second = c.push_least.new.words.items in
    let end = c.push_lags.new.words.items in
    then_ok r start first end _ _ c.in_ok-push_most.ensures
    (then_ok r first second end _ _ c.in_ok-push_least.ensures c.push_lags.ensures)
