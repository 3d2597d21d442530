-- What the tokens of the text stand for, the bytes stand for.
use Rattle.json_fields.specs.Listed.{IsDocument}
use Rattle.json_fields.proofs.UsualParts.{value_of_tokens}
use Rattle.call_reading.proofs.usual.read_usual.Goals as goal

pub returns : goal.returns
returns g c =
    value_of_tokens (λ d r. IsDocument g.P.FromTokens.stands_for c.args.name.now d r.0 r.1) c.args.bytes.now
    c.in-Ok.text.now c.new-reader.result c.read_document.result c.in-Ok.ensures.cases.0 c.in-Ok.ensures.cases.1
    c.new-reader.ensures c.read_document.ensures
