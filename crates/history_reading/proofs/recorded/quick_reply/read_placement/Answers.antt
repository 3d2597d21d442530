-- Its members, in their order.
use Rattle.std.proofs.Common.{◌≡◌, ℕ, ◌^◌, List, Some, None, sym, ap, ◌∙◌, arith}
use Rattle.json.specs.Json.{read_key}
use Rattle.history_reading.specs.Replies.{numbers_of}
use Rattle.history_reading.proofs.Spelled.{members_then, members_ended, placed_kind, placed_made}
use Rattle.history_reading.proofs.recorded.quick_reply.read_placement.Goals as goal

pub returns : goal.returns
returns c = λ kind.
    let starts = c.in_ok-starts.ensures in
    let numbers : numbers_of (2 ^ 16) starts.0 ≡ Some c.from_vec.result =
    starts.2 ∙ ap (λ (l : List ℕ). Some l) (sym c.from_vec.ensures) in
    let end : read_key c.u16s_under.new.reader ≡ Some (None, c.take_end.new.reader) = grind arith in
    record {
      all = _;
      are = members_then starts.1 (members_ended end);
      kind_is = placed_kind kind c.args.reference starts.0;
      place_is = placed_made kind c.args.reference starts.0 c.from_vec.result (omega arith) numbers;
    }
