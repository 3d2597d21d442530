-- One text behind another.
use Rattle.report_writing.specs.RankMetrics.{rank_delay_metrics}
use Rattle.report_writing.proofs.Appended.{then_ok}
use Rattle.report_writing.proofs.metrics.ranks.push_delay_metrics.Goals as goal

pub returns : goal.returns
unfolding rank_delay_metrics
returns c =
    let start = c.args.words.now.items in
    let first = c.push_heading.new.words.items in
    let end = c.push_all_delays.new.words.items in
    then_ok c.push_all_delays.result start first end _ _ c.in_ok-push_heading.ensures c.push_all_delays.ensures
