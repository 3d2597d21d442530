-- The key is the one that is wanted.
use Rattle.std.proofs.Common.{◌≡◌, true, bytes_eq, Some, arith}
use Rattle.json.specs.Json.{read_key}
use Rattle.history_reading.specs.Key.{key_of}
use Rattle.history_reading.proofs.Spelled.{key_named}
use Rattle.history_reading.proofs.recorded.quick_member.take_any_key.Goals as goal

pub returns : goal.returns
returns c =
    let s = c.next_key.new.reader in
    let k = c.in-Some.found.now in
    let same : bytes_eq k (key_of c.args.key) ≡ true = grind arith in
    let key : read_key c.args.reader.now ≡ Some (Some k, s) = grind arith in
    key_named k (key_of c.args.key) c.args.reader.now s same key
