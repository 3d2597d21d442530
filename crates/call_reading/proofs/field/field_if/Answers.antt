-- The key is that of the field.
use Rattle.std.proofs.Common.{ap}
use Rattle.json.specs.Json.{read_key}
use Rattle.call_reading.specs.Field.{key_of}
use Rattle.call_reading.proofs.Fields.{plain_key}
use Rattle.call_reading.proofs.field.field_if.Goals as goal

pub returns-then-take_spelled_key : goal.returns-then-take_spelled_key
returns-then-take_spelled_key c =
    let field = c.args.field in
    ap read_key (c.if-take_spelled_key.ensures (key_of field) (plain_key field) c.requires)
