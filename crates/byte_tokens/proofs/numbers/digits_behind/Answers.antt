-- The digits are those of the number.
use Rattle.std.proofs.Common.{arith}
use Rattle.byte_tokens.proofs.Bytes.{digit_put}
use Rattle.byte_tokens.proofs.numbers.digits_behind.Goals as goal

pub digits-preserved : goal.digits-preserved
digits-preserved c =
    let l = c.digits in
    let so_far = l.invariant in
    let text = c.args.text.now in
    let digit = c.is_digit.ensures c.if-is_digit.true in (
      omega (arith, so_far.0),
      omega (arith, c.digits-test.true),
      λ few. digit_put text c.args.from l.at l.number so_far.0 c.digits-test.true digit few
          (so_far.2 (omega (arith, few, so_far.0))),
    )
