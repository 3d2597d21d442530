-- One number more, up to all of them.
use Rattle.std.proofs.Common.{ℕ, ◌++◌, Ok, flat_map, ap, ◌∙◌, arith}
use Rattle.std.specs.List.{range_with_len}
use Rattle.report_writing.specs.Metrics.{refusal_sample, refusals_metrics}
use Rattle.report_writing.proofs.Appended.{then_ok, one_more}
use Rattle.report_writing.proofs.metrics.channel.push_refusals.Goals as goal

pub loop-place-preserved : goal.loop-place-preserved
loop-place-preserved c =
    one_more (refusal_sample c.args.refused.now) c.loop-place.place _ _ _ c.loop-place.invariant
    c.in_ok-push_refusal.ensures

pub returns : goal.returns
unfolding refusals_metrics
returns c =
    let start = c.args.words.now.items in
    let first = c.push_heading.new.words.items in
    let end = c.loop-place.words.items in
    then_ok {E = ℕ} (Ok tt) start first end _ _ c.in_ok-push_heading.ensures
    (c.loop-place.invariant
    ∙ ap (λ n. first ++ flat_map (refusal_sample c.args.refused.now) (range_with_len 0 n)) (omega arith))
