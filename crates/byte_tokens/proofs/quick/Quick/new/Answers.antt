-- White space before the first token is none.
use Rattle.std.proofs.Common.{◌≡◌, drop, ap, subst}
use Rattle.json.specs.Lex.{between, lex, fresh, punctuate}
use Rattle.byte_tokens.proofs.quick.Quick.new.Goals as goal

pub returns : goal.returns
returns c =
    ap (punctuate fresh)
    (subst (λ t. lex between (drop c.behind_gap.result t) ≡ lex between (drop 0 t)) c.as_bytes.ensures.value
    c.behind_gap.ensures.same)
