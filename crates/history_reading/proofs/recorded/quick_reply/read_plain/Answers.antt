-- The brace stands behind the kind.
use Rattle.std.proofs.Common.{◌≡◌, Some, None, arith}
use Rattle.json.specs.Json.{read_key}
use Rattle.history_reading.proofs.Spelled.{members_ended}
use Rattle.history_reading.proofs.recorded.quick_reply.read_plain.Goals as goal

pub returns : goal.returns
returns c = λ depth.
    let end : read_key c.args.reader.now ≡ Some (None, c.take_end.new.reader) = grind arith in
    record { all = _; are = members_ended end; makes = c.in-Some.ensures }
