-- One text behind another.
use Rattle.report_writing.specs.LifeMetrics.{lives_metrics}
use Rattle.report_writing.proofs.Appended.{then_ok}
use Rattle.report_writing.proofs.metrics.lives.push_lives_metrics.Goals as goal

pub returns : goal.returns
unfolding lives_metrics
returns c =
    let r = c.push_delay_metrics.result in
    let start = c.args.words.now.items in
    let first = c.push_spans.new.words.items in
    let second = c.push_bytes.new.words.items in
    let third = c.push_requests.new.words.items in
    let fourth = c.push_oldest.new.words.items in
    let fifth = c.push_lost.new.words.items in
    let sixth = c.push_under.new.words.items in
    let seventh = c.push_held.new.words.items in
    let end = c.push_delay_metrics.new.words.items in
    then_ok r start first end _ _ c.in_ok-push_spans.ensures
    (then_ok r first second end _ _ c.in_ok-push_bytes.ensures
    (then_ok r second third end _ _ c.in_ok-push_requests.ensures
    (then_ok r third fourth end _ _ c.in_ok-push_oldest.ensures
    (then_ok r fourth fifth end _ _ c.in_ok-push_lost.ensures
    (then_ok r fifth sixth end _ _ c.in_ok-push_under.ensures
    (then_ok r sixth seventh end _ _ c.in_ok-push_held.ensures c.push_delay_metrics.ensures))))))
