-- One text behind another.
use Rattle.report_writing.specs.RankMetrics.{rank_asked_metrics}
use Rattle.report_writing.proofs.Appended.{then_ok}
use Rattle.report_writing.proofs.metrics.ranks.push_asked.Goals as goal

pub returns : goal.returns
unfolding rank_asked_metrics
returns c =
    let r = c.push_samples-3.result in
    let start = c.args.words.now.items in
    let first = c.push_heading.new.words.items in
    let second = c.push_samples.new.words.items in
    let third = c.push_heading-2.new.words.items in
    let fourth = c.push_samples-2.new.words.items in
    let fifth = c.push_heading-3.new.words.items in
    let end = c.push_samples-3.new.words.items in
    then_ok r start first end _ _ c.in_ok-push_heading.ensures
    (then_ok r first second end _ _ c.in_ok-push_samples.ensures
    (then_ok r second third end _ _ c.in_ok-push_heading-2.ensures
    (then_ok r third fourth end _ _ c.in_ok-push_samples-2.ensures
    (then_ok r fourth fifth end _ _ c.in_ok-push_heading-3.ensures c.push_samples-3.ensures))))
