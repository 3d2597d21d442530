-- The text of the tokens, and the newline.
use Rattle.std.proofs.Common.{◌≡◌, ap, ◌∙◌, ◌++◌, ◌∷◌, [], List, ℕ}
use Rattle.serde_json.specs.Written.{compact_text}
use Rattle.serde_json.proofs.Texts.{print-outline}
use Rattle.report_writing.specs.Report.{report_data, report_text}
use Rattle.report_writing.proofs.printed.json_text.Goals as goal

pub returns : goal.returns
unfolding report_text
returns c =
    let refused = c.refused.result.now in
    let lives = c.in_ok-lives.lives.items in
    let ranks = c.in_ok-ranks.ranks.items in
    let report = report_data c.totals-totals.result refused lives ranks in
    let members = c.in_ok-put_report.ensures in
    let text : c.into_inner-text.result.items ≡ compact_text report =
    c.into_inner-text.ensures.items
    ∙ rw (
      members.before,
      members.ok,
      c.new-out.ensures.before,
      c.new-out.ensures.tokens,
      c.new.ensures.items,
      c.deref.ensures.value,
      c.deref-2.ensures.value,
    ) (print-outline report) in
    record {
      refused = refused;
      counts = c.refused.ensures;
      lives = lives;
      are_lives = c.in_ok-lives.ensures.told;
      ranks = ranks;
      are_ranks = c.in_ok-ranks.ensures;
      text_is = c.in_ok-push.ensures.items ∙ ap (λ (known : List ℕ). known ++ 10 ∷ []) text
          ∙ ap (λ totals. report_text totals refused lives ranks) c.totals-totals.ensures;
    }
