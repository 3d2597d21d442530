-- The bracket stands first, and behind it white space.
use Rattle.std.proofs.Common.{◌≡◌, ◌+◌, ◌∷◌, drop, sym, ap, ◌∙◌, subst, arith}
use Rattle.json.specs.Token.{begin_array}
use Rattle.json.specs.Lex.{between, lex, fresh, punctuate}
use Rattle.byte_tokens.proofs.Bytes.{first}
use Rattle.byte_tokens.proofs.Taken.{array_opens}
use Rattle.byte_tokens.proofs.quick.Quick.open_array.Goals as goal

pub returns : goal.returns
returns c taken =
    let a = c.self.inside in
    let text = a.text.now in
    let same = c.as_bytes-text.ensures.value in
    let p = c.behind_gap-self-inside.result in
    let here = first c.as_bytes-text.result.now text a.at c.byte_at.result 91 same c.if-byte_at-ne91.false
    c.byte_at.ensures.here (omega arith) in
    let left : lex between (drop p text) ≡ lex between (drop (a.at + 1) text) =
    subst (λ t. lex between (drop p t) ≡ lex between (drop (a.at + 1) t)) same
    c.behind_gap-self-inside.ensures.same in
    let may = sym c.may_begin.ensures ∙ c.if-not-may_begin.false in
    sym c.self.view_is ∙ array_opens (drop a.at text) (drop (a.at + 1) text) a.before may here
    ∙ ap (λ ls. begin_array ∷ punctuate fresh ls) (sym left)
