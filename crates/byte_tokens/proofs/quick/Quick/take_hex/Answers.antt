-- The digits stand first, and behind them what ends a value.
use Rattle.std.proofs.Common.{◌≡◌, ◌∷◌, ◌++◌, drop, sym, ap, ◌∙◌, subst}
use Rattle.json.specs.Token.{string}
use Rattle.json.specs.Lex.{between, lex, after_value, punctuate}
use Rattle.byte_tokens.specs.Left.{tokens_from, EndsValue}
use Rattle.byte_tokens.proofs.Taken.{text_left}
use Rattle.byte_tokens.proofs.quick.Quick.take_hex.Goals as goal

pub returns : goal.returns
returns c =
    let a = c.self.inside in
    let text = a.text.now in
    let at = c.in_ok-found.at in
    let same = c.as_bytes-text.ensures.value in
    let found = c.in_ok-found.ensures in
    let s = found.0 in
    let r = c.in_ok-at in
    let ends : EndsValue (drop at text) = subst (λ t. EndsValue (drop at t)) same r.ensures.ends in
    let left : tokens_from r.before (drop r.at text) ≡ punctuate after_value (lex between (drop at text)) =
    subst (λ t. tokens_from r.before (drop r.at t) ≡ punctuate after_value (lex between (drop at t))) same
    r.ensures.same in (
      s,
      sym c.self.view_is
          ∙ text_left a.before (sym c.may_begin.ensures ∙ c.if-not-may_begin.false) (drop a.at text) (drop at text) s
          found.1 (subst (λ t. drop a.at t ≡ 34 ∷ (s ++ 34 ∷ drop at t)) same found.4) ends
          ∙ ap (λ ts. string s ∷ ts) (sym left),
      found.2,
    )
