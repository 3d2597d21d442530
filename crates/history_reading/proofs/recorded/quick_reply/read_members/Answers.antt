-- By the first key.
use Rattle.std.proofs.Common.{◌≡◌, true, bytes_eq, codes, Some, arith}
use Rattle.json.specs.Json.{read_key}
use Rattle.serde_json.specs.Data.{number, unsigned, string}
use Rattle.history_reading.proofs.Spelled.{key_named, member_of, members_then}
use Rattle.history_reading.proofs.recorded.quick_reply.read_members.Goals as goal

pub returns-in_ok-reply-in-kind : goal.returns-in_ok-reply-in-kind
returns-in_ok-reply-in-kind c =
    let ts = c.args.reader.now in
    let s = c.next_key.new.reader in
    let k = c.in-Some.key.now in
    let same : bytes_eq k (codes "kind") ≡ true = grind arith in
    let key : read_key ts ≡ Some (Some k, s) = grind arith in
    let read = c.in_ok-kind-in-kind.ensures in
    let rest = c.in_ok-reply-in-kind.ensures in
    record {
      all = _;
      are = members_then (member_of c.args.depth (codes "kind") (string c.in_ok-kind-in-kind.kind.now) ts s
          c.read_text.new.reader
          (key_named k (codes "kind") ts s same key) (read.is c.args.depth) read.shorter) rest.are;
      makes = rest.makes;
    }

pub returns-in_ok-reply-in-ack : goal.returns-in_ok-reply-in-ack
returns-in_ok-reply-in-ack c =
    let ts = c.args.reader.now in
    let s = c.next_key.new.reader in
    let k = c.in-Some.key.now in
    let same : bytes_eq k (codes "ack") ≡ true = grind arith in
    let key : read_key ts ≡ Some (Some k, s) = grind arith in
    let read = c.in_ok-ack-in-ack.ensures in
    let rest = c.in_ok-reply-in-ack.ensures in
    record {
      all = _;
      are = members_then (member_of c.args.depth (codes "ack") (number (unsigned c.in_ok-ack-in-ack.ack)) ts s
          c.read_number.new.reader
          (key_named k (codes "ack") ts s same key) (read.is c.args.depth) read.shorter) rest.are;
      makes = rest.makes;
    }

pub returns-in_ok-reply-in-asked : goal.returns-in_ok-reply-in-asked
returns-in_ok-reply-in-asked c =
    let ts = c.args.reader.now in
    let s = c.next_key.new.reader in
    let k = c.in-Some.key.now in
    let same : bytes_eq k (codes "asked") ≡ true = grind arith in
    let key : read_key ts ≡ Some (Some k, s) = grind arith in
    let read = c.in_ok-asked-in-asked.ensures in
    let rest = c.in_ok-reply-in-asked.ensures c.args.depth in
    record {
      all = _;
      are = members_then (member_of c.args.depth (codes "asked") (number (unsigned c.in_ok-asked-in-asked.asked)) ts s
          c.read_number-in-asked.new.reader
          (key_named k (codes "asked") ts s same key) (read.is c.args.depth) read.shorter) rest.are;
      makes = rest.makes;
    }
