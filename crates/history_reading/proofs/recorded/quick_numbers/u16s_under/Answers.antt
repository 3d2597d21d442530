-- The key, and the array behind it.
use Rattle.std.proofs.Common.{◌≡◌, ◌^◌, ◌∷◌, length, Some, ap, arith, add-one}
use Rattle.json.specs.Token.{Token}
use Rattle.json.specs.Json.{read_key}
use Rattle.serde_json.specs.Data.{array}
use Rattle.serde_json.specs.View.{items_of}
use Rattle.json_fields.proofs.PlainValues.{array_read}
use Rattle.history_reading.specs.Key.{key_of}
use Rattle.history_reading.proofs.Spelled.{member_of, numbers_made}
use Rattle.history_reading.proofs.recorded.quick_numbers.u16s_under.Goals as goal

pub returns : goal.returns
returns c =
    let ts = c.args.reader.now in
    let s = c.take_key.new.reader in
    let q = c.open_array.new.self in
    let r = c.read_u16s.new.reader in
    let key : read_key ts ≡ Some (Some (key_of c.args.key), s) = grind arith in
    let opened : s ≡ Token.begin_array ∷ q = grind arith in
    let are = c.in_ok-numbers.ensures.are in (
      items_of are.0,
      member_of c.args.depth (key_of c.args.key) (array (items_of are.0)) ts s r key
          (array_read c.args.depth s r q (items_of are.0) (omega arith) opened are.1)
          (omega (arith, ap length opened, add-one (length q), c.in_ok-numbers.ensures.shorter)),
      numbers_made (2 ^ 16) are.0 c.in_ok-numbers.numbers.items are.2,
    )
