-- The one token of a text.
use Rattle.json_fields.proofs.PlainValues.{string_read}
use Rattle.call_reading.proofs.field.read_name.Goals as goal

pub returns-in-Some-clause-is : goal.returns-in-Some-clause-is
returns-in-Some-clause-is c =
    λ depth. string_read depth c.args.reader.now c.known_name.new.reader c.in-Some.name.now c.in-Some.ensures
