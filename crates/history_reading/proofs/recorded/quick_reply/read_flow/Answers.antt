-- Its members, in their order.
use Rattle.std.proofs.Common.{◌≡◌, true, bytes_eq, codes, Some, None, arith}
use Rattle.json.specs.Json.{read_key}
use Rattle.history_reading.proofs.Spelled.{members_then, members_ended, kind_named, flow_made}
use Rattle.history_reading.proofs.recorded.quick_reply.read_flow.Goals as goal

pub returns : goal.returns
returns c = λ depth.
    let kind = c.in_ok-kind.kind.now in
    let same : bytes_eq kind (codes "flow") ≡ true = grind arith in
    let granted = c.in_ok-granted.ensures in
    let outstanding = c.in_ok-outstanding.ensures in
    let end : read_key c.number_under-2.new.reader ≡ Some (None, c.take_end.new.reader) = grind arith in
    record {
      all = _;
      are = members_then (granted.1 depth) (members_then (kind_named kind (codes "flow") same
          (c.in_ok-kind.ensures depth)) (members_then (outstanding.1 depth) (members_ended end)));
      makes = flow_made c.args.asked c.in_ok-granted.granted c.in_ok-outstanding.outstanding (omega arith) granted.0
          outstanding.0;
    }
