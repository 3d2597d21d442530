-- The key, and the digits behind it.
use Rattle.std.proofs.Common.{◌≡◌, ◌∷◌, length, Some, ap, arith, add-one}
use Rattle.json.specs.Token as token
use Rattle.json.specs.Json.{read_key}
use Rattle.serde_json.specs.Data.{string}
use Rattle.json_fields.proofs.PlainValues.{string_read}
use Rattle.history_reading.specs.Key.{key_of}
use Rattle.history_reading.proofs.Spelled.{member_of}
use Rattle.history_reading.proofs.recorded.quick_member.bytes_under.Goals as goal

pub returns : goal.returns
returns c =
    let ts = c.args.reader.now in
    let s = c.take_key.new.reader in
    let r = c.take_hex.new.self in
    let key : read_key ts ≡ Some (Some (key_of c.args.key), s) = grind arith in
    let found = c.in-Some.ensures in
    let is : s ≡ token.string found.0 ∷ r = found.1 in (
      found.0,
      λ depth. member_of depth (key_of c.args.key) (string found.0) ts s r key (string_read depth s r found.0 is)
          (omega (arith, ap length is, add-one (length r))),
      found.2,
    )
