-- One text behind another.
use Rattle.report_writing.specs.Metrics.{use_samples}
use Rattle.report_writing.proofs.Appended.{then_ok}
use Rattle.report_writing.proofs.metrics.channel.push_uses.Goals as goal

pub returns : goal.returns
unfolding use_samples
returns c =
    let r = c.push_use_sample-6.result in
    let start = c.args.words.now.items in
    let first = c.push_use_sample.new.words.items in
    let second = c.push_use_sample-2.new.words.items in
    let third = c.push_open_sample.new.words.items in
    let fourth = c.push_use_sample-3.new.words.items in
    let fifth = c.push_use_sample-4.new.words.items in
    let sixth = c.push_use_sample-5.new.words.items in
    let end = c.push_use_sample-6.new.words.items in
    then_ok r start first end _ _ c.in_ok-push_use_sample.ensures
    (then_ok r first second end _ _ c.in_ok-push_use_sample-2.ensures
    (then_ok r second third end _ _ c.in_ok-push_open_sample.ensures
    (then_ok r third fourth end _ _ c.in_ok-push_use_sample-3.ensures
    (then_ok r fourth fifth end _ _ c.in_ok-push_use_sample-4.ensures
    (then_ok r fifth sixth end _ _ c.in_ok-push_use_sample-5.ensures c.push_use_sample-6.ensures)))))
