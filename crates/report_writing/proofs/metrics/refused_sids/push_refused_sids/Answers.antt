-- One number more, up to all of them.
use Rattle.std.proofs.Common.{ℕ, ◌++◌, Ok, flat_map, ap, ◌∙◌, arith}
use Rattle.std.specs.List.{range_with_len}
use Rattle.report_writing.specs.RefusedSids.{refused_sid_sample, refused_sids_metrics}
use Rattle.report_writing.proofs.Appended.{then_ok, one_more}
use Rattle.report_writing.proofs.metrics.refused_sids.push_refused_sids.Goals as goal

pub loop-sid-preserved : goal.loop-sid-preserved
loop-sid-preserved c =
    one_more (refused_sid_sample c.args.refused.now) c.loop-sid.sid _ _ _ c.loop-sid.invariant
    c.in_ok-push_refused_sid.ensures

pub returns : goal.returns
unfolding refused_sids_metrics
returns c =
    let start = c.args.words.now.items in
    let first = c.push_heading.new.words.items in
    let end = c.loop-sid.words.items in
    then_ok {E = ℕ} (Ok tt) start first end _ _ c.in_ok-push_heading.ensures
    (c.loop-sid.invariant
    ∙ ap (λ n. first ++ flat_map (refused_sid_sample c.args.refused.now) (range_with_len 0 n)) (omega arith))
