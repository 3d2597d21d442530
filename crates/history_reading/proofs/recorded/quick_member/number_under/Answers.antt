-- The key, and the number behind it.
use Rattle.std.proofs.Common.{◌≡◌, Some, arith}
use Rattle.json.specs.Json.{read_key}
use Rattle.serde_json.specs.Data.{number, unsigned}
use Rattle.history_reading.specs.Key.{key_of}
use Rattle.history_reading.proofs.Spelled.{member_of}
use Rattle.history_reading.proofs.recorded.quick_member.number_under.Goals as goal

pub returns : goal.returns
returns c =
    let ts = c.args.reader.now in
    let s = c.take_key.new.reader in
    let n = c.in_ok-number.number in
    let key : read_key ts ≡ Some (Some (key_of c.args.key), s) = grind arith in (
      omega arith,
      λ depth. member_of depth (key_of c.args.key) (number (unsigned n)) ts s c.read_number.new.reader key
          (c.in_ok-number.ensures.is depth) c.in_ok-number.ensures.shorter,
    )
