-- One text behind another.
use Rattle.report_writing.specs.LifeMetrics.{life_oldest_metrics}
use Rattle.report_writing.proofs.Appended.{then_ok}
use Rattle.report_writing.proofs.metrics.lives.push_oldest.Goals as goal

pub returns : goal.returns
unfolding life_oldest_metrics
returns c =
    let start = c.args.words.now.items in
    let first = c.push_heading.new.words.items in
    let end = c.push_samples.new.words.items in
    then_ok c.push_samples.result start first end _ _ c.in_ok-push_heading.ensures c.push_samples.ensures
