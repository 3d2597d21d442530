-- The text of the tokens, and the newline.
use Rattle.std.proofs.Common.{◌≡◌, ap, ◌∙◌, ◌++◌, ◌∷◌, [], List, ℕ}
use Rattle.serde_json.specs.Written.{compact_text}
use Rattle.serde_json.proofs.Texts.{print-outline}
use Rattle.history_writing.specs.Journal.{opening_data, opening_line}
use Rattle.history_writing.proofs.journal.opening_text.Goals as goal

pub returns : goal.returns
unfolding opening_line
returns c =
    let opening = opening_data c.args.config.now in
    let written = c.in_ok-put_opening.ensures in
    let text : c.into_inner-text.result.items ≡ compact_text opening =
    c.into_inner-text.ensures.items
    ∙ rw (written.before, written.ok, c.new-out.ensures.before, c.new-out.ensures.tokens, c.new.ensures.items)
    (print-outline opening) in
    c.in_ok-push.ensures.items ∙ ap (λ (known : List ℕ). known ++ 10 ∷ []) text
