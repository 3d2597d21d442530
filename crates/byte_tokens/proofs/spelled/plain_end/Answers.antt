-- One byte more.
use Rattle.std.proofs.Common.{arith}
use Rattle.byte_tokens.proofs.Bytes.{plain_more}
use Rattle.byte_tokens.proofs.spelled.plain_end.Goals as goal

pub bytes-preserved : goal.bytes-preserved
bytes-preserved c =
    let so_far = c.bytes.invariant in (
      omega (arith, so_far.0),
      omega arith,
      plain_more c.args.text.now c.args.from c.bytes.at so_far.0 c.bytes-test.true
          (c.is_plain.ensures c.if-is_plain.true) so_far.2,
    )
