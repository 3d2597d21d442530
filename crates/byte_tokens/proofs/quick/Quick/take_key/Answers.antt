-- The text in quotes stands first, behind it the colon, and white space around that.
use Rattle.std.proofs.Common.{◌+◌, ◌∷◌, ◌≡◌, drop, sym, ap, ◌∙◌, subst, arith}
use Rattle.json.specs.Token.{key}
use Rattle.json.specs.Lex.{between, lex, fresh, punctuate}
use Rattle.byte_tokens.proofs.Bytes.{first}
use Rattle.byte_tokens.proofs.Taken.{key_left}
use Rattle.byte_tokens.proofs.quick.Quick.take_key.Goals as goal

pub returns : goal.returns
returns c =
    let a = c.self.inside in
    let text = a.text.now in
    let s = c.in_ok-found.found.now in
    let end = c.in_ok-found.end in
    let at = c.behind_gap-at.result in
    let found = c.in_ok-found.ensures in
    let same = c.as_bytes-text.ensures.value in
    let p = c.behind_space-self-inside.result in
    let rest = first c.as_bytes-text.result.now text at c.byte_at.result 58 same c.if-byte_at-ne58.false
    c.byte_at.ensures.here (omega arith) in
    let before : lex between (drop at text) ≡ lex between (drop end text) =
    subst (λ t. lex between (drop at t) ≡ lex between (drop end t)) same c.behind_gap-at.ensures.same in
    let left : lex between (drop p text) ≡ lex between (drop (at + 1) text) =
    subst (λ t. lex between (drop p t) ≡ lex between (drop (at + 1) t)) same c.behind_space-self-inside.ensures.same in
    sym c.self.view_is
    ∙ key_left a.before (sym c.may_begin.ensures ∙ c.if-not-may_begin.false) (drop a.at text) (drop (at + 1) text) s
    (drop end text) found.0 found.2 (sym before ∙ ap (lex between) rest)
    ∙ ap (λ ls. key s ∷ punctuate fresh ls) (sym left)
