-- The key is that of the field, and behind it stands the number.
use Rattle.call_reading.proofs.Made.{number_noted}
use Rattle.call_reading.proofs.Fields.{plain_key}
use Rattle.call_reading.specs.Field.{key_of}
use Rattle.call_reading.proofs.usual_call.minislots_under.Goals as goal

pub returns : goal.returns
returns c =
    let field = c.args.field in
    let n = c.in_ok-number.number in
    let taken = c.in_ok-number.ensures in
    λ depth s. number_noted depth c.args.reader.now c.take_spelled_key.new.self c.take_wide_number.new.self s
    (key_of field) n ((rw c.if-not-take_spelled_key.false at c.take_spelled_key.ensures)
    (key_of field) (plain_key field) c.requires) taken.0 taken.1
