-- The labels between the name and the number.
use Rattle.std.proofs.Common.{codes, refl}
use Rattle.map_drawing.proofs.Ranges.{appended}
use Rattle.report_writing.specs.LifeMetrics.{life_info}
use Rattle.report_writing.proofs.Appended.{then_ok}
use Rattle.report_writing.proofs.metrics.life.push_info.Goals as goal

pub returns : goal.returns
unfolding life_info
returns c =
    let r = c.extend_from_slice-2.result in
    let start = c.args.words.now.items in
    let first = c.extend_from_slice.new.self.items in
    let second = c.push_life_labels.new.words.items in
    let end = c.extend_from_slice-2.new.self.items in
    then_ok r start first end _ _ c.in_ok-extend_from_slice.ensures.items
    (then_ok r first second end _ _ c.in_ok-push_life_labels.ensures
    (appended r second end _ (codes "} 1\n") c.extend_from_slice-2.ensures.items refl))
