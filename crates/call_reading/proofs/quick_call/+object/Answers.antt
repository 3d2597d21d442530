-- Each turn puts a value among the members before it.
use Rattle.std.proofs.Common.{◌≡◌, ◌-◌, ◌∷◌, length, Some, None, sym, ap, ◌∙◌, arith}
use Rattle.json.specs.Token.{Token}
use Rattle.json.specs.Json.{read_key, members, value}
use Rattle.json.proofs.Grammar.{read_key-shorter}
use Rattle.serde_json.specs.Data.{put}
use Rattle.serde_json.specs.Read.{of_members, converted}
use Rattle.json_fields.specs.Plain.{data_of, members_of}
use Rattle.json_fields.proofs.PlainValues.{members_of-push, member_read, members_over, object_read, data_of-Object}
use Rattle.call_reading.proofs.quick_call.+object.Goals as goal

pub read_object-returns-clause-is : goal.read_object-returns-clause-is
read_object-returns-clause-is t c =
    let is : c.args.reader.now ≡ Token.begin_object ∷ c.open_object.new.self = grind arith in
    let r = c.read_object_members.new.reader in
    let found = c.in_ok-members.members in
    object_read c.args.depth c.args.reader.now r c.open_object.new.self (members_of found.items) (omega arith) is
    c.in_ok-members.ensures.are
    ∙ ap (λ d. Some (d, r)) (sym (data_of-Object found))

pub read_object_members-members-init : goal.read_object_members-members-init
read_object_members-members-init t c = (
  length c.args.reader.now,
  omega arith,
  ap (λ found. converted (λ ms. of_members ms (members_of found))
      (members (value c.args.depth) (length c.args.reader.now) c.args.reader.now)) (sym c.in_ok-found.ensures.items),
  omega arith,
)

pub read_object_members-members-preserved : goal.read_object_members-members-preserved
read_object_members-members-preserved t c =
    let p = value c.args.depth in
    let l = c.members in
    let n = l.invariant.0 in
    let old = members_of l.found.items in
    let k = c.in-Some.key in
    let s = c.next_key.new.reader in
    let r = c.read_object_value.new.reader in
    let v = c.in_ok-member.member in
    let key : read_key l.reader ≡ Some (Some k.now, s) = grind arith in
    let fewer = read_key-shorter l.reader (Some k.now) s key in
    let shorter = c.in_ok-member.ensures.shorter in
    let pushed : members_of c.push.new.self.items ≡ put k.now (data_of v) old =
    ap members_of c.in_ok-push.ensures.items ∙ members_of-push l.found.items (k, v) in (
      n - 1,
      omega (arith, l.invariant.1),
      l.invariant.2
          ∙ member_read p n old l.reader r k.now s (data_of v) (omega (arith, l.invariant.1)) key
          c.in_ok-member.ensures.is
          ∙ ap (λ found. converted (λ ms. of_members ms found) (members p (n - 1) r)) (sym pushed),
      omega (arith, l.invariant.3),
    )

pub read_object_members-returns : goal.read_object_members-returns
read_object_members-returns t c =
    let l = c.members in
    let over : read_key l.reader ≡ Some (None, c.next_key.new.reader) = grind arith in
    let shorter = read_key-shorter l.reader None c.next_key.new.reader over in
    record {
      are = l.invariant.2
          ∙ members_over (value c.args.depth) l.invariant.0 (members_of l.found.items) l.reader c.next_key.new.reader
          l.invariant.1 over;
      shorter = omega (arith, l.invariant.3);
    }
