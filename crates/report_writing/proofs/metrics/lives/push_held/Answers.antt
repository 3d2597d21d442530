-- One text behind another, where a life has a ceiling.
use Rattle.std.proofs.Common.{◌≡◌, true, sym, ◌∙◌}
use Rattle.std.specs.List.{list_any}
use Rattle.report_writing.specs.LifeMetrics.{life_held_metrics}
use Rattle.report_writing.specs.Held.{has_ceiling}
use Rattle.report_writing.proofs.Appended.{then_ok}
use Rattle.report_writing.proofs.metrics.lives.push_held.Goals as goal

pub returns : goal.returns
unfolding life_held_metrics
returns c =
    let start = c.args.words.now.items in
    let first = c.push_heading.new.words.items in
    let end = c.push_samples.new.words.items in
    let some : list_any has_ceiling c.args.lives.now ≡ true =
    sym c.is_any_held.ensures ∙ c.if-not-is_any_held.false in
    rw some (then_ok c.push_samples.result start first end _ _ c.in_ok-push_heading.ensures c.push_samples.ensures)
