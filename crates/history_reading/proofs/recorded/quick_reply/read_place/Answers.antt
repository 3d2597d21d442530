-- The brace, or a reference and what stands behind it.
use Rattle.std.proofs.Common.{◌≡◌, true, bytes_eq, codes, Some, None, arith}
use Rattle.json.specs.Json.{read_key}
use Rattle.serde_json.specs.Data.{number, unsigned}
use Rattle.history_reading.proofs.Spelled.{key_named, member_of, members_then, nowhere}
use Rattle.history_reading.proofs.recorded.quick_reply.read_place.Goals as goal

pub returns-in_default : goal.returns-in_default
returns-in_default c = λ kind.
    let end : read_key c.args.reader.now ≡ Some (None, c.next_key.new.reader) = grind arith in
    nowhere kind end

pub returns : goal.returns
returns c = λ kind.
    let ts = c.args.reader.now in
    let s = c.next_key.new.reader in
    let k = c.in-Some.key.now in
    let same : bytes_eq k (codes "reference") ≡ true = grind arith in
    let key : read_key ts ≡ Some (Some k, s) = grind arith in
    let read = c.in_ok-reference.ensures in
    let rest = c.in_ok-placement.ensures kind in
    record {
      all = _;
      are = members_then (member_of c.args.depth (codes "reference") (number (unsigned c.in_ok-reference.reference)) ts
          s c.read_number.new.reader (key_named k (codes "reference") ts s same key)
          (read.is c.args.depth) read.shorter) rest.are;
      kind_is = rest.kind_is;
      place_is = rest.place_is;
    }
