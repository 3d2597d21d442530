-- What the tokens of the text stand for, the bytes stand for.
use Rattle.json_fields.proofs.UsualParts.{value_of_tokens}
use Rattle.call_reading.proofs.usual.read_single.Goals as goal

pub returns : goal.returns
returns g c =
    value_of_tokens g.X.FromTokens.stands_for c.args.bytes.now c.in-Ok.text.now c.new-reader.result
    c.read_alone.result c.in-Ok.ensures.cases.0 c.in-Ok.ensures.cases.1 c.new-reader.ensures c.read_alone.ensures
