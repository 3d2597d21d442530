-- The members of the object make the reply.
use Rattle.std.proofs.Common.{◌≡◌, ◌∷◌, length, ap, arith, add-one}
use Rattle.json.specs.Token.{Token}
use Rattle.serde_json.specs.Data.{object}
use Rattle.json_fields.proofs.PlainValues.{object_read}
use Rattle.history_reading.proofs.recorded.quick_reply.read_quick_reply.Goals as goal

pub returns : goal.returns
returns c =
    let s = c.open_object.new.self in
    let r = c.read_members.new.reader in
    let is : c.args.reader.now ≡ Token.begin_object ∷ s = grind arith in
    let made = c.in_ok-reply.ensures in (
      object made.all,
      object_read c.args.depth c.args.reader.now r s made.all (omega arith) is (made.are.read (length s) (omega arith)),
      made.makes,
      omega (arith, ap length is, add-one (length s), made.are.shorter),
    )
