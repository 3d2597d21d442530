-- The value stands first, and behind it what ends it.
use Rattle.std.proofs.Common.{◌≡◌, ◌∷◌, ◌++◌, drop, decimal, sym, ap, ◌∙◌, subst}
use Rattle.json.specs.Token.{number}
use Rattle.json.specs.Lex.{between, lex, after_value, punctuate}
use Rattle.byte_tokens.specs.Left.{tokens_from, EndsValue}
use Rattle.byte_tokens.proofs.Taken.{number_left}
use Rattle.byte_tokens.proofs.quick.Quick.take_wide_number.Goals as goal

pub returns : goal.returns
returns c =
    let a = c.self.inside in
    let text = a.text.now in
    let n = c.in-Some.found in
    let at = c.in-Some.at in
    let found = c.in-Some.ensures in
    let same = c.as_bytes-text.ensures.value in
    let r = c.in_ok-at in
    let spelled : drop a.at text ≡ decimal n ++ drop at text =
    subst (λ t. drop a.at t ≡ decimal n ++ drop at t) same found.3 in
    let ends : EndsValue (drop at text) = subst (λ t. EndsValue (drop at t)) same r.ensures.ends in
    let left : tokens_from r.before (drop r.at text) ≡ punctuate after_value (lex between (drop at text)) =
    subst (λ t. tokens_from r.before (drop r.at t) ≡ punctuate after_value (lex between (drop at t))) same
    r.ensures.same in (
      found.2,
      sym c.self.view_is
          ∙ number_left a.before (sym c.may_begin.ensures ∙ c.if-not-may_begin.false) (drop a.at text) (drop at text) n
          found.2 spelled ends
          ∙ ap (λ ts. number (decimal n) ∷ ts) (sym left),
    )
