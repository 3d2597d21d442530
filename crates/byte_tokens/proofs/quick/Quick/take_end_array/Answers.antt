-- The bracket stands first, and behind it the comma that may follow.
use Rattle.std.proofs.Common.{◌≡◌, ◌+◌, ◌∷◌, drop, sym, ap, ◌∙◌, subst, arith}
use Rattle.json.specs.Token.{end_array}
use Rattle.json.specs.Lex.{between, lex, after_value, punctuate}
use Rattle.byte_tokens.specs.Left.{tokens_from}
use Rattle.byte_tokens.proofs.Bytes.{first}
use Rattle.byte_tokens.proofs.Taken.{array_closes}
use Rattle.byte_tokens.proofs.quick.Quick.take_end_array.Goals as goal

pub returns : goal.returns
returns c =
    let a = c.self.inside in
    let text = a.text.now in
    let same = c.as_bytes-text.ensures.value in
    let r = c.behind_value-at.result in
    let here = first c.as_bytes-text.result.now text a.at c.byte_at.result 93 same c.if-byte_at-ne93.false
    c.byte_at.ensures.here (omega arith) in
    let left : tokens_from r.1 (drop r.0 text) ≡ punctuate after_value (lex between (drop (a.at + 1) text)) =
    subst (λ t. tokens_from r.1 (drop r.0 t) ≡ punctuate after_value (lex between (drop (a.at + 1) t))) same
    c.behind_value-at.ensures.same in
    let may = sym c.may_close.ensures ∙ c.if-not-may_close.false in
    sym c.self.view_is
    ∙ array_closes (drop a.at text) (drop (a.at + 1) text) a.before may here
    ∙ ap (λ ts. end_array ∷ ts) (sym left)
