-- One digit more.
use Rattle.std.proofs.Common.{arith}
use Rattle.byte_tokens.proofs.Bytes.{digit_put}
use Rattle.byte_tokens.proofs.numbers.put_digit.Goals as goal

pub returns : goal.returns
returns c =
    let so_far = c.requires.so_far in (
      omega (arith, so_far.0),
      omega (arith, c.requires.within),
      λ few. digit_put c.args.text.now c.args.from c.args.at c.args.number so_far.0 c.requires.within c.requires.digit
          few (so_far.2 (omega (arith, few, so_far.0))),
    )
