-- The key, and the text behind it.
use Rattle.std.proofs.Common.{◌≡◌, Some, arith}
use Rattle.json.specs.Json.{read_key}
use Rattle.serde_json.specs.Data.{string}
use Rattle.history_reading.specs.Key.{key_of}
use Rattle.history_reading.proofs.Spelled.{member_of}
use Rattle.history_reading.proofs.recorded.quick_member.text_under.Goals as goal

pub returns : goal.returns
returns c =
    let ts = c.args.reader.now in
    let s = c.take_key.new.reader in
    let key : read_key ts ≡ Some (Some (key_of c.args.key), s) = grind arith in
    λ depth. member_of depth (key_of c.args.key) (string c.in_ok-text.text.now) ts s c.read_text.new.reader key
    (c.in_ok-text.ensures.is depth) c.in_ok-text.ensures.shorter
