-- The one token of a text.
use Rattle.json_fields.proofs.PlainValues.{string_read}
use Rattle.call_reading.proofs.quick_call.read_text.Goals as goal

pub returns-clause-is : goal.returns-clause-is
returns-clause-is c =
    λ depth. string_read depth c.args.reader.now c.take_text.new.self c.in-Some.text.now c.in-Some.ensures
