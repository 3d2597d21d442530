-- The first digit is that of the number.
use Rattle.std.proofs.Common.{◌≡◌, ◌+◌, ◌-◌, ◌^◌, ◌<◌, ◌∷◌, drop, get_or, lit<, ap, ◌∙◌, sym, subst, arith}
use Rattle.byte_tokens.proofs.Bytes.{digit_first, next_byte}
use Rattle.byte_tokens.proofs.short_numbers.short_number_at.Goals as goal

pub returns-then-first-eq48 : goal.returns-then-first-eq48
returns-then-first-eq48 c =
    let text = c.args.text.now in
    let from = c.args.from in
    let here = next_byte text from (omega (arith, c.requires)) in
    let is : drop from text ≡ 48 ∷ drop (from + 1) text =
    here ∙ ap (λ y. y ∷ drop (from + 1) text) c.if-first-eq48.true in
    let digit = digit_first (drop from text) (drop (from + 1) text) 48 (omega arith) (omega arith) is in
    (omega (arith, c.requires), omega arith, lit< tt, digit)

pub behind_first-requires-clause-so_far : goal.behind_first-requires-clause-so_far
behind_first-requires-clause-so_far c =
    let text = c.args.text.now in
    let from = c.args.from in
    let x = get_or text from 0 in
    let digit = c.is_digit.ensures c.if-not-is_digit.false in
    let here = next_byte text from (omega (arith, c.requires)) in
    let apart = c.if-first-eq48.false in
    let one : from + 1 - from ≡ 1 = omega arith in
    let some : 0 < x - 48 = grind arith in (
      omega arith,
      omega (arith, c.requires),
      λ few. (
        some,
        subst (λ i. x - 48 < 10 ^ i) (sym one) (omega (arith, digit.1)),
        digit_first (drop from text) (drop (from + 1) text) x digit.0 digit.1 here,
      ),
    )
