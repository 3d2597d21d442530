-- The text of the tokens, and the newline.
use Rattle.std.proofs.Common.{◌≡◌, ap, ◌∙◌, ◌++◌, ◌∷◌, [], List, ℕ}
use Rattle.serde_json.specs.Written.{compact_text}
use Rattle.serde_json.proofs.Texts.{print-outline}
use Rattle.history_writing.specs.HistoryText.{history_data, history_text}
use Rattle.history_writing.proofs.history.history_text.Goals as goal

pub returns-clause-ok : goal.returns-clause-ok
unfolding history_text
returns-clause-ok c =
    let history = history_data c.args.config.now c.args.entries.now in
    let members = c.in_ok-put_members.ensures in
    let text : c.into_inner-text.result.items ≡ compact_text history =
    c.into_inner-text.ensures.items
    ∙ rw (members.before, members.ok, c.new-out.ensures.before, c.new-out.ensures.tokens, c.new.ensures.items)
    (print-outline history) in
    c.in_ok-push.ensures.items ∙ ap (λ (known : List ℕ). known ++ 10 ∷ []) text
