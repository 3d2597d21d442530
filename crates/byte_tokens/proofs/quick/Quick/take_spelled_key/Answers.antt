-- The key stands first, behind it the colon, and the space behind that.
use Rattle.std.proofs.Common.{◌≡◌, ◌+◌, ◌∷◌, drop, length, refl, sym, ap, ◌∙◌, subst}
use Rattle.json.specs.Token.{key}
use Rattle.json.specs.Lex.{between, lex, fresh, punctuate}
use Rattle.byte_tokens.proofs.Bytes.{word_first}
use Rattle.byte_tokens.proofs.Taken.{key_left, key_spelled}
use Rattle.byte_tokens.proofs.quick.Quick.take_spelled_key.Goals as goal

pub returns : goal.returns
returns c name same is =
    let a = c.self.inside in
    let text = a.text.now in
    let bytes = c.as_bytes-text.result.now in
    let as_text = c.as_bytes-text.ensures.value in
    let word = c.as_bytes.result.now in
    let as_word = c.as_bytes.ensures.value in
    let p = c.behind_space-self-inside.result in
    let stop = a.at + length c.args.spelled.now in
    let found = c.quoted_word_at.ensures c.if-not-quoted_word_at.false in
    let here = word_first bytes text word c.args.spelled.now a.at as_text as_word found.1 in
    let left : lex between (drop p text) ≡ lex between (drop stop text) =
    subst (λ t. lex between (drop p t) ≡ lex between (drop stop t)) as_text c.behind_space-self-inside.ensures.same in
    sym c.self.view_is
    ∙ key_left a.before (sym c.may_begin.ensures ∙ c.if-not-may_begin.false) (drop a.at text) (drop stop text) name
    (58 ∷ drop stop text) same (key_spelled (drop a.at text) c.args.spelled.now name (drop stop text) is here) refl
    ∙ ap (λ ls. key name ∷ punctuate fresh ls) (sym left)
