-- Its members, in their order.
use Rattle.std.proofs.Common.{arith}
use Rattle.history_reading.proofs.Spelled.{members_then, refused_made}
use Rattle.history_reading.proofs.recorded.quick_reply.read_refused.Goals as goal

pub returns : goal.returns
returns c = λ depth.
    let number = c.in_ok-number.ensures in
    let value = c.in_ok-value.ensures in
    record {
      all = _;
      are = members_then (number.1 depth) (value.1 depth _);
      makes = refused_made c.in_ok-number.number c.in_ok-value.value c.in-Some.refusal number.0 value.0
          (grind arith);
    }
