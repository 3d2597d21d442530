-- The key, and the reply behind it.
use Rattle.std.proofs.Common.{◌≡◌, codes, Some, arith}
use Rattle.json.specs.Json.{read_key}
use Rattle.history_reading.proofs.Spelled.{member_of}
use Rattle.history_reading.proofs.recorded.quick_entry.reply_under.Goals as goal

pub returns : goal.returns
returns c =
    let ts = c.args.reader.now in
    let s = c.take_key.new.reader in
    let key : read_key ts ≡ Some (Some (codes "reply"), s) = grind arith in
    let is = c.in_ok-reply.ensures in
    (is.0, member_of c.args.depth (codes "reply") is.0 ts s c.read_quick_reply.new.reader key is.1 is.3, is.2)
