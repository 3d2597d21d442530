-- The text of the tokens stands behind what stood there.
use Rattle.std.proofs.Common.{◌≡◌, ap, ◌∙◌, [], ◌++◌, List, ℕ}
use Rattle.json.specs.Token.{Token}
use Rattle.json.specs.Print.{print}
use Rattle.serde_json.specs.Data.{Data}
use Rattle.serde_json.specs.Written.{compact_text}
use Rattle.serde_json.proofs.Texts.{print-outline}
use Rattle.history_writing.specs.HistoryText.{entry_data}
use Rattle.history_writing.specs.Tokens.{tokens_of}
use Rattle.text_stream.proofs.Written.{where_ok}
use Rattle.history_writing.proofs.journal.put_object.Goals as goal

printed : (held kept items : List ℕ) (begun told : List Token) (d : Data) → items ≡ kept ++ print told → kept ≡ held
    → told ≡ begun ++ tokens_of d → begun ≡ [] → items ≡ held ++ compact_text d
printed held kept items begun told d is same tokens none =
    is ∙ rw (same, tokens, none) (ap (λ (text : List ℕ). held ++ text) (print-outline d))

pub returns-clause-ok : goal.returns-clause-ok
returns-clause-ok c =
    let written = c.put_entry-written.ensures in
    let before = rw (c.replace.ensures.value) at c.new-out.ensures.before in
    where_ok c.put_entry-written.result (λ told.
    printed c.args.text.now.items _ _ _ _ (entry_data c.args.entry.now) c.into_inner.ensures.items
    (written.before ∙ before) told c.new-out.ensures.tokens) written.ok
