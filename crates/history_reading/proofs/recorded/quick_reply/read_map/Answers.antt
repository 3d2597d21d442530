-- Its members, in their order.
use Rattle.std.proofs.Common.{◌≡◌, ℕ, ◌^◌, List, true, bytes_eq, codes, Some, None, sym, ap, ◌∙◌, arith}
use Rattle.json.specs.Json.{read_key}
use Rattle.history_reading.specs.Replies.{numbers_of, map_of}
use Rattle.history_reading.proofs.Spelled.{members_then, members_ended, kind_named, map_made}
use Rattle.history_reading.proofs.recorded.quick_reply.read_map.Goals as goal

pub returns : goal.returns
returns c =
    let depth = c.args.depth in
    let kind = c.in_ok-kind.kind.now in
    let same : bytes_eq kind (codes "map") ≡ true = grind arith in
    let bytes = c.in_ok-bytes.ensures in
    let start = c.in_ok-start.ensures in
    let numbers : numbers_of (2 ^ 32) bytes.0 ≡ Some c.from_vec.result =
    bytes.2 ∙ ap (λ (l : List ℕ). Some l) (sym c.from_vec.ensures) in
    let payload = c.in_ok-payload.ensures in
    let wire : map_of c.in_ok-payload.payload.items ≡ Some c.in-Some.wire = grind arith in
    let end : read_key c.number_under.new.reader ≡ Some (None, c.take_end.new.reader) = grind arith in
    record {
      all = _;
      are = members_then bytes.1 (members_then (payload.1 depth) (members_then
          (kind_named kind (codes "map") same (c.in_ok-kind.ensures depth))
          (members_then (start.1 depth) (members_ended end))));
      makes = map_made c.args.ack c.in_ok-start.start bytes.0 c.from_vec.result payload.0 c.in_ok-payload.payload.items
          c.in-Some.wire (omega arith) start.0 numbers payload.2 wire;
    }
