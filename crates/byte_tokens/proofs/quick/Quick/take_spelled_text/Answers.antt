-- The text stands first, and behind it what ends a value.
use Rattle.std.proofs.Common.{◌≡◌, ◌+◌, ◌∷◌, drop, length, sym, ap, ◌∙◌, subst}
use Rattle.json.specs.Token.{string}
use Rattle.json.specs.Lex.{between, lex, after_value, punctuate}
use Rattle.byte_tokens.specs.Left.{tokens_from, EndsValue}
use Rattle.byte_tokens.proofs.Bytes.{word_first}
use Rattle.byte_tokens.proofs.Taken.{text_left, text_spelled}
use Rattle.byte_tokens.proofs.quick.Quick.take_spelled_text.Goals as goal

pub returns : goal.returns
returns c content same is =
    let a = c.self.inside in
    let text = a.text.now in
    let bytes = c.as_bytes-text.result.now in
    let as_text = c.as_bytes-text.ensures.value in
    let stop = a.at + length c.args.spelled.now in
    let r = c.in-Some in
    let found = c.stands_at.ensures c.if-not-stands_at.false in
    let here = word_first bytes text c.as_bytes.result.now c.args.spelled.now a.at as_text c.as_bytes.ensures.value
    found.1 in
    let ends : EndsValue (drop stop text) = subst (λ t. EndsValue (drop stop t)) as_text r.ensures.ends in
    let left : tokens_from r.before (drop r.at text) ≡ punctuate after_value (lex between (drop stop text)) =
    subst (λ t. tokens_from r.before (drop r.at t) ≡ punctuate after_value (lex between (drop stop t))) as_text
    r.ensures.same in
    sym c.self.view_is
    ∙ text_left a.before (sym c.may_begin.ensures ∙ c.if-not-may_begin.false) (drop a.at text) (drop stop text) content
    same (text_spelled (drop a.at text) c.args.spelled.now content (drop stop text) is here) ends
    ∙ ap (λ ts. string content ∷ ts) (sym left)
