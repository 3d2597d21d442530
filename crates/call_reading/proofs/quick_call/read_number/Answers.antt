-- The one token of a number.
use Rattle.std.proofs.Common.{decimal}
use Rattle.serde_json.proofs.Numbers.{number_of-decimal}
use Rattle.json_fields.proofs.PlainValues.{unsigned_read}
use Rattle.call_reading.proofs.quick_call.read_number.Goals as goal

pub returns-clause-is : goal.returns-clause-is
returns-clause-is c =
    let n = c.in-Some.number in
    let taken = c.in-Some.ensures in
    λ depth. unsigned_read depth c.args.reader.now c.take_number.new.self (decimal n) n taken.1
    (number_of-decimal n taken.0)
