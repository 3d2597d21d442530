-- The key, and the call behind it.
use Rattle.std.proofs.Common.{◌≡◌, codes, Some, arith}
use Rattle.json.specs.Json.{read_key}
use Rattle.history_reading.proofs.Spelled.{member_of}
use Rattle.history_reading.proofs.recorded.quick_entry.call_under.Goals as goal

pub returns : goal.returns
returns c =
    let ts = c.args.reader.now in
    let s = c.take_key.new.reader in
    let key : read_key ts ≡ Some (Some (codes "call"), s) = grind arith in
    let is = c.in_ok-call.ensures.is in (
      is.0,
      member_of c.args.depth (codes "call") is.0 ts s c.read_quick_call.new.reader key is.1
          c.in_ok-call.ensures.shorter,
      is.2,
    )
