-- Its members, in their order.
use Rattle.std.proofs.Common.{◌≡◌, ◌-◌, ◌∷◌, length, Some, None, ap, arith, add-one}
use Rattle.json.specs.Token.{Token}
use Rattle.json.specs.Json.{read_key}
use Rattle.serde_json.specs.Data.{object, no_members}
use Rattle.json_fields.proofs.PlainValues.{object_read}
use Rattle.history_reading.specs.Spelled.{AreMembers}
use Rattle.history_reading.proofs.Spelled.{members_then, members_ended, entry_made, entry_members}
use Rattle.history_reading.proofs.recorded.quick_entry.read_quick_entry.Goals as goal

pub returns : goal.returns
returns c =
    let s = c.open_object.new.self in
    let r = c.take_end.new.reader in
    let depth = c.args.depth - 1 in
    let is : c.args.reader.now ≡ Token.begin_object ∷ s = grind arith in
    let end : read_key c.number_under.new.reader ≡ Some (None, r) = grind arith in
    let call = c.in_ok-call.ensures in
    let reply = c.in_ok-reply.ensures in
    let seat = c.in_ok-seat.ensures in
    let ticket = c.in_ok-ticket.ensures in
    let all = entry_members call.0 reply.0 c.in_ok-seat.seat c.in_ok-ticket.ticket in
    let are : AreMembers depth no_members all s r = members_then call.1 (members_then reply.1 (
    members_then (seat.1 depth) (members_then (ticket.1 depth) (members_ended end)))) in
    record {
      is = (
        object all,
        object_read c.args.depth c.args.reader.now r s all (omega arith) is (are.read (length s) (omega arith)),
        entry_made call.0 reply.0 c.in_ok-call.call c.in_ok-reply.reply c.in_ok-seat.seat c.in_ok-ticket.ticket call.2
            reply.2 seat.0 ticket.0,
      );
      shorter = omega (arith, ap length is, add-one (length s), are.shorter);
    }
