-- What ends a value stands first, and behind a comma white space is passed.
use Rattle.std.proofs.Common.{refl, inl, inr, ◌+◌, drop, ap, ◌∙◌, arith}
use Rattle.json.specs.Lex.{after_comma, punctuate}
use Rattle.byte_tokens.proofs.Bytes.{first}
use Rattle.byte_tokens.proofs.Taken.{comma_passed, ends_value}
use Rattle.byte_tokens.proofs.between.ended_here.Goals as goal
use Rattle.byte_tokens.proofs.between.ended_here.Goals.{else-next-ne125-via-then-next-ne125+else-next-ne93}
use Rattle.byte_tokens.proofs.between.ended_here.Goals.{else-next-ne125-via-else-next-ne125}

pub returns-then-next-eq44-clause-same : goal.returns-then-next-eq44-clause-same
returns-then-next-eq44-clause-same c =
    let text = c.args.text.now in
    ap (punctuate after_comma) c.behind_space.ensures.same
    ∙ comma_passed (drop c.args.at text) (drop (c.args.at + 1) text)
    (first text text c.args.at c.byte_at-next.result 44 refl c.if-next-eq44.true c.byte_at-next.ensures.here
    (omega arith))

pub returns-then-next-eq44-clause-ends : goal.returns-then-next-eq44-clause-ends
returns-then-next-eq44-clause-ends c =
    let text = c.args.text.now in
    ends_value (drop c.args.at text) (drop (c.args.at + 1) text) 44 (inl refl)
    (first text text c.args.at c.byte_at-next.result 44 refl c.if-next-eq44.true c.byte_at-next.ensures.here
    (omega arith))

pub returns-clause-ends : goal.returns-clause-ends
returns-clause-ends c =
    let text = c.args.text.now in
    elim c.else-next-ne125.branch [
      | else-next-ne125-via-then-next-ne125+else-next-ne93 w ↦
          ends_value (drop c.args.at text) (drop (c.args.at + 1) text) 93 (inr (inr refl))
          (first text text c.args.at c.byte_at-next.result 93 refl w.if-next-ne93.false c.byte_at-next.ensures.here
          (omega arith))
      | else-next-ne125-via-else-next-ne125 w ↦
          ends_value (drop c.args.at text) (drop (c.args.at + 1) text) 125 (inr (inl refl))
          (first text text c.args.at c.byte_at-next.result 125 refl w.if-next-ne125.false c.byte_at-next.ensures.here
          (omega arith))
    ]
