-- The first digit is that of the number.
use Rattle.std.proofs.Common.{◌≡◌, ◌+◌, ◌-◌, ◌^◌, ◌<◌, ◌∷◌, drop, lit<, sym, ap, ◌∙◌, subst, arith}
use Rattle.byte_tokens.proofs.Bytes.{digit_first}
use Rattle.byte_tokens.proofs.numbers.number_at.Goals as goal

pub returns-then-first-eq48 : goal.returns-then-first-eq48
returns-then-first-eq48 c =
    let x = c.byte_at-first.result in
    let text = c.args.text.now in
    let within = c.byte_at-first.ensures.within (omega arith) in
    let here = c.byte_at-first.ensures.here (omega arith) in
    let is : drop c.args.from text ≡ 48 ∷ drop (c.args.from + 1) text =
    here ∙ ap (λ y. y ∷ drop (c.args.from + 1) text) c.if-first-eq48.true in
    let digit = digit_first (drop c.args.from text) (drop (c.args.from + 1) text) 48 (omega arith) (omega arith) is in
    (omega arith, omega arith, lit< tt, digit)

pub digits_behind-requires : goal.digits_behind-requires
digits_behind-requires c =
    let x = c.byte_at-first.result in
    let text = c.args.text.now in
    let from = c.args.from in
    let digit = c.is_digit.ensures c.if-not-is_digit.false in
    let within = c.byte_at-first.ensures.within (omega (arith, digit.0)) in
    let here = c.byte_at-first.ensures.here (omega (arith, digit.0)) in
    let apart = c.if-first-eq48.false in
    let one : from + 1 - from ≡ 1 = omega arith in
    let some : 0 < x - 48 = grind arith in (
      omega arith,
      omega (arith, within),
      λ few. (
        some,
        subst (λ i. x - 48 < 10 ^ i) (sym one) (omega (arith, digit.1)),
        digit_first (drop from text) (drop (from + 1) text) x digit.0 digit.1 here,
      ),
    )
