-- The metrics, one part behind another.
use Rattle.std.proofs.Common.{◌≡◌, ◌++◌, ℕ, Ok, codes, ap, ◌∙◌, refl, arith}
use Rattle.minislots.specs.declared.config.Config.{Config}
use Rattle.report_writing.specs.RefusedSids.{refused_sids_metrics}
use Rattle.minislots.proofs.Bounds.{bounds_of}
use Rattle.report_writing.specs.ExtremeMetrics.{extremes_metrics}
use Rattle.report_writing.specs.RankMetrics.{ranks_metrics}
use Rattle.report_writing.specs.LifeMetrics.{lives_metrics}
use Rattle.report_writing.specs.Metrics.{channel_metrics, metrics_text}
use Rattle.report_writing.proofs.Appended.{then_ok}
use Rattle.report_writing.proofs.metrics.metrics_text.Goals as goal

pub push_extremes-requires : goal.push_extremes-requires
push_extremes-requires c =
    omega (
      arith,
      c.extremes-extremes.ensures.places,
      c.receivers.ensures.value,
      (bounds_of c.args.config.now c.receivers.ensures.lawful).receivers_most,
    )

pub returns : goal.returns
unfolding metrics_text
returns c =
    let ticks = c.ticks-ticks.result in
    let start = c.new-words.result.items in
    let first = c.push_channel.new.words.items in
    let second = c.push_extremes.new.words.items in
    let sids-end = c.push_refused_sids.new.words.items in
    let third = c.push_ranks_metrics.new.words.items in
    let fourth = c.push_lives_metrics.new.words.items in
    let end = c.extend_from_slice.new.self.items in
    let channel = channel_metrics ticks c.totals-totals.result c.refused.result.now in
    let extremes = extremes_metrics ticks c.receivers.result c.extremes-extremes.result in
    let sids = refused_sids_metrics c.refused_sids.result.now in
    let ranks = ranks_metrics ticks c.deref.result.now in
    let lives = lives_metrics ticks c.deref-2.result.now in
    let last = codes "# EOF\n" in
    let whole : end ≡ start ++ (channel ++ (extremes ++ (sids ++ (ranks ++ (lives ++ last))))) =
    then_ok {E = ℕ} (Ok tt) start first end channel (extremes ++ (sids ++ (ranks ++ (lives ++ last))))
    c.in_ok-push_channel.ensures
    (then_ok {E = ℕ} (Ok tt) first second end extremes (sids ++ (ranks ++ (lives ++ last)))
    c.in_ok-push_extremes.ensures
    (then_ok {E = ℕ} (Ok tt) second sids-end end sids (ranks ++ (lives ++ last)) c.in_ok-push_refused_sids.ensures
    (then_ok {E = ℕ} (Ok tt) sids-end third end ranks (lives ++ last) c.in_ok-push_ranks_metrics.ensures
    (then_ok {E = ℕ} (Ok tt) third fourth end lives last c.in_ok-push_lives_metrics.ensures
    c.in_ok-extend_from_slice.ensures.items)))) in
    record {
      refused = c.refused.result.now;
      counts = c.refused.ensures;
      sids = c.refused_sids.result.now;
      counts_sids = c.refused_sids.ensures;
      extremes = c.extremes-extremes.result;
      are_extremes = c.extremes-extremes.ensures;
      ranks = c.in_ok-ranks.ranks.items;
      are_ranks = c.in_ok-ranks.ensures;
      lives = c.in_ok-lives.lives.items;
      are_lives = c.in_ok-lives.ensures.told;
      text_is = whole
          ∙ rw (
            c.new-words.ensures.items,
            c.ticks-ticks.ensures.value,
            ap (λ (k : Config). k.ticks) c.requires,
            c.receivers.ensures.value,
            ap (λ (k : Config). k.receivers) c.requires,
            c.totals-totals.ensures,
            c.deref.ensures.value,
            c.deref-2.ensures.value,
          ) refl;
    }
