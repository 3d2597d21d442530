-- The digits are those of the number.
use Rattle.std.proofs.Common.{◌+◌, ◌*◌, ◌-◌, ◌^◌, ◌<◌, drop, get_or, arith}
use Rattle.byte_tokens.proofs.Bytes.{digit_first, digit_more}
use Rattle.byte_tokens.proofs.numbers.long_number_at.Goals as goal

pub digits-init : goal.digits-init
digits-init c =
    let x = c.byte_at-first.result in
    let text = c.args.text.now in
    let from = c.args.from in
    let digit = c.is_digit.ensures c.if-not-is_digit.false in
    let within = c.byte_at-first.ensures.within (omega (arith, digit.0)) in
    let here = c.byte_at-first.ensures.here (omega (arith, digit.0)) in
    let apart = c.if-first-eq48.false in (
      omega arith,
      omega (arith, within),
      grind arith,
      omega (arith, digit.1),
      digit_first (drop from text) (drop (from + 1) text) x digit.0 digit.1 here,
    )

pub digits-preserved : goal.digits-preserved
digits-preserved c =
    let l = c.digits in
    let so_far = l.invariant in
    let text = c.args.text.now in
    let digit = c.is_digit-in-digits.ensures c.if-is_digit.true in
    let few = c.if-number-gt-MOST.false in
    let fits : l.number * 10 + (get_or text l.at 0 - 48) < 2 ^ 64 = omega (arith, digit.1) in (
      omega (arith, so_far.0),
      omega arith,
      omega (arith, so_far.2),
      fits,
      digit_more text c.args.from l.at l.number c.digits-test.true so_far.2 digit.0 digit.1 fits so_far.4,
    )
