-- The brace, or a value and the brace behind it.
use Rattle.std.proofs.Common.{◌≡◌, true, bytes_eq, codes, Some, None, arith}
use Rattle.json.specs.Json.{read_key}
use Rattle.serde_json.specs.Data.{number, unsigned}
use Rattle.history_reading.proofs.Spelled.{key_named, member_of, members_then, members_ended}
use Rattle.history_reading.proofs.recorded.quick_reply.read_value.Goals as goal

pub returns-in_default : goal.returns-in_default
returns-in_default c =
    let end : read_key c.args.reader.now ≡ Some (None, c.next_key.new.reader) = grind arith in
    (tt, λ depth found. members_ended end)

pub returns : goal.returns
returns c =
    let ts = c.args.reader.now in
    let s = c.next_key.new.reader in
    let k = c.in-Some.key.now in
    let same : bytes_eq k (codes "value") ≡ true = grind arith in
    let key : read_key ts ≡ Some (Some k, s) = grind arith in
    let read = c.in_ok-value.ensures in
    let end : read_key c.read_number.new.reader ≡ Some (None, c.take_end.new.reader) = grind arith in (
      omega arith,
      λ depth found. members_then (member_of depth (codes "value") (number (unsigned c.in_ok-value.value)) ts s
          c.read_number.new.reader (key_named k (codes "value") ts s same key)
          (read.is depth) read.shorter) (members_ended end),
    )
