-- The numbers stand first, and behind them the bracket.
use Rattle.std.proofs.Common.{◌≡◌, ◌+◌, ◌∷◌, ◌++◌, drop, refl, sym, ap, ◌∙◌, subst, arith}
use Rattle.json.specs.Token.{end_array}
use Rattle.byte_tokens.specs.declared.between.Before.TheVariants.{Value}
use Rattle.byte_tokens.specs.Left.{tokens_from}
use Rattle.byte_tokens.specs.Listed.{number_tokens}
use Rattle.byte_tokens.proofs.Bytes.{first}
use Rattle.byte_tokens.proofs.Taken.{array_closes}
use Rattle.byte_tokens.proofs.quick.Quick.take_u32s.Goals as goal

pub returns : goal.returns
returns c =
    let a = c.self.inside in
    let text = c.as_bytes-text.result.now in
    let at = c.in_ok-numbers.at in
    let same = c.as_bytes-text.ensures.value in
    let ns = c.in_ok-numbers.numbers.items in
    let r = c.behind_value-at.result in
    let close : drop at text ≡ 93 ∷ drop (at + 1) text =
    first text text at c.byte_at.result 93 refl c.if-byte_at-ne93.false c.byte_at.ensures.here (omega arith) in
    let b = c.in_ok-numbers.before in
    let are : tokens_from a.before (drop a.at text) ≡ number_tokens ns ++ tokens_from b (drop at text) =
    c.in_ok-numbers.ensures.are a.before (sym c.may_begin.ensures ∙ c.if-not-may_begin.false) in
    let closed : tokens_from b (drop at text) ≡ end_array ∷ tokens_from Value (drop (at + 1) text) =
    array_closes (drop at text) (drop (at + 1) text) b (sym c.may_close.ensures ∙ c.if-not-may_close.false) close in
    let left : tokens_from a.before (drop a.at text) ≡ number_tokens ns ++ end_array ∷ tokens_from r.1 (drop r.0 text) =
    are ∙ ap (λ ts. number_tokens ns ++ ts) (closed ∙ ap (λ ts. end_array ∷ ts) (sym c.behind_value-at.ensures.same)) in
    sym c.self.view_is
    ∙ subst
    (λ t. tokens_from a.before (drop a.at t) ≡ number_tokens ns ++ end_array ∷ tokens_from r.1 (drop r.0 t)) same left
