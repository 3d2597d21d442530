-- Digits alone are the number that they write.
use Rattle.json_fields.proofs.PlainValues.{whole_read}
use Rattle.json_fields.proofs.plain.whole_of.Goals as goal

pub returns : goal.returns
returns c =
    let s = c.as_bytes-bytes.result.now in
    whole_read c.args.text.now s c.scan.result c.to_u64.result c.as_bytes-bytes.ensures.value c.scan.ensures.parts
    c.if-bytes-eq45.false c.to_u64.ensures
