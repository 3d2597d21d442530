-- Its members, in their order.
use Rattle.std.proofs.Common.{◌≡◌, Some, None, arith}
use Rattle.json.specs.Json.{read_key}
use Rattle.history_reading.proofs.Spelled.{members_then, members_ended, skipped_made}
use Rattle.history_reading.proofs.recorded.quick_reply.read_skipped.Goals as goal

pub returns : goal.returns
returns c = λ depth.
    let next = c.in_ok-next.ensures in
    let end : read_key c.number_under.new.reader ≡ Some (None, c.take_end.new.reader) = grind arith in
    record {
      all = _;
      are = members_then (next.1 depth) (members_ended end);
      makes = skipped_made c.in_ok-next.next next.0;
    }
