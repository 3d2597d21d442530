-- The comma is passed, and the white space around it.
use Rattle.std.proofs.Common.{refl, ◌+◌, drop, ap, ◌∙◌, arith}
use Rattle.json.specs.Lex.{after_comma, after_value, punctuate}
use Rattle.byte_tokens.proofs.Bytes.{first}
use Rattle.byte_tokens.proofs.Taken.{comma_passed}
use Rattle.byte_tokens.proofs.between.behind_value.Goals as goal

pub returns-then-byte_at-eq44-clause-same : goal.returns-then-byte_at-eq44-clause-same
returns-then-byte_at-eq44-clause-same c =
    let text = c.args.text.now in
    let end = c.behind_gap-end.result in
    ap (punctuate after_comma) c.behind_space.ensures.same
    ∙ comma_passed (drop end text) (drop (end + 1) text)
    (first text text end c.byte_at.result 44 refl c.if-byte_at-eq44.true c.byte_at.ensures.here (omega arith))
    ∙ ap (punctuate after_value) c.behind_gap-end.ensures.same
