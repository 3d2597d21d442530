-- One text behind another.
use Rattle.report_writing.specs.ExtremeMetrics.{least_metrics}
use Rattle.report_writing.proofs.Appended.{then_ok}
use Rattle.report_writing.proofs.metrics.extremes.push_least.Goals as goal

pub returns : goal.returns
unfolding least_metrics
returns c =
    let r = c.push_count_line_or_none.result in
    let start = c.args.words.now.items in
    let first = c.push_heading.new.words.items in
    let second = c.push_time_line.new.words.items in
    let third = c.push_heading-2.new.words.items in
    let end = c.push_count_line_or_none.new.words.items in
    then_ok r start first end _ _ c.in_ok-push_heading.ensures
    (then_ok r first second end _ _ c.in_ok-push_time_line.ensures
    (then_ok r second third end _ _ c.in_ok-push_heading-2.ensures c.push_count_line_or_none.ensures))
