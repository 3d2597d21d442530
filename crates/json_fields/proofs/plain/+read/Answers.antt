-- Each token is one of the grammar's turns, and what it gives is put among the members before it.
use Rattle.std.proofs.Common.{◌≡◌, ◌-◌, ◌<◌, [], ◌∷◌, ◌++◌, length, map, Some, None, sym, ap, ◌∙◌, arith}
use Rattle.json.specs.Token.{Token}
use Rattle.std.proofs.lemmas.List.{map-append}
use Rattle.json.specs.Json.{read_key, after_end_array, members, value}
use Rattle.json.specs.Reads.{token_of}
use Rattle.json.proofs.Grammar.{read_key-shorter}
use Rattle.serde_json.specs.Data.{unsigned, put}
use Rattle.serde_json.specs.Read.{number_of, of_members, converted}
use Rattle.serde_json.specs.View.{items_of}
use Rattle.json_fields.specs.Plain.{data_of, members_of}
use Rattle.json_fields.proofs.PlainValues.{members_of-push, member_read, members_over, data_of-Array, data_of-Object}
use Rattle.json_fields.proofs.PlainValues.{text_read, number_read, array_read, object_read}
use Rattle.json_fields.proofs.Items.{ItemsLeft-none, ItemsLeft-more, items_over}
use Rattle.json_fields.proofs.plain.+read.Goals as goal

pub read_plain-returns-in-String-clause-is : goal.read_plain-returns-in-String-clause-is
read_plain-returns-in-String-clause-is t c =
    let first : c.args.reader.now ≡ token_of c.in_ok-text.field-0 ∷ c.next.new.self = grind arith in
    let is : c.args.reader.now ≡ Token.string c.in-String.text.now ∷ c.next.new.self = grind (arith, first) in
    text_read c.args.depth c.args.reader.now c.next.new.self c.in-String.text is

pub read_plain-returns-in_ok-ok_or-in-Number-clause-is :
    goal.read_plain-returns-in_ok-ok_or-in-Number-clause-is
read_plain-returns-in_ok-ok_or-in-Number-clause-is t c =
    let first : c.args.reader.now ≡ token_of c.in_ok-text.field-0 ∷ c.next.new.self = grind arith in
    let is : c.args.reader.now ≡ Token.number c.in-Number.text.now ∷ c.next.new.self = grind (arith, first) in
    let n = c.in_ok-ok_or-in-Number.field-0 in
    let reads : number_of c.in-Number.text.now ≡ Some (unsigned n) = grind arith in
    number_read c.args.depth c.args.reader.now c.next.new.self c.in-Number.text.now n is reads

pub read_plain-returns-in_ok-read_members-in-BeginObject-clause-is :
    goal.read_plain-returns-in_ok-read_members-in-BeginObject-clause-is
read_plain-returns-in_ok-read_members-in-BeginObject-clause-is t c =
    let first : c.args.reader.now ≡ token_of c.in_ok-text.field-0 ∷ c.next.new.self = grind arith in
    let is : c.args.reader.now ≡ Token.begin_object ∷ c.next.new.self = grind (arith, first) in
    let found = c.in_ok-read_members-in-BeginObject in
    object_read c.args.depth c.args.reader.now c.read_members.new.reader c.next.new.self
    (members_of found.field-0.items) (omega arith) is found.ensures.are
    ∙ ap (λ d. Some (d, c.read_members.new.reader)) (sym (data_of-Object found.field-0))

pub read_plain-returns-in_ok-read_items-in-BeginArray-clause-is :
    goal.read_plain-returns-in_ok-read_items-in-BeginArray-clause-is
read_plain-returns-in_ok-read_items-in-BeginArray-clause-is t c =
    let first : c.args.reader.now ≡ token_of c.in_ok-text.field-0 ∷ c.next.new.self = grind arith in
    let is : c.args.reader.now ≡ Token.begin_array ∷ c.next.new.self = grind (arith, first) in
    let found = c.in_ok-read_items-in-BeginArray in
    array_read c.args.depth c.args.reader.now c.read_items.new.reader c.next.new.self
    (items_of (map data_of found.field-0.items)) (omega arith) is found.ensures.are
    ∙ ap (λ d. Some (d, c.read_items.new.reader)) (sym (data_of-Array found.field-0))

pub read_items-items-init : goal.read_items-items-init
read_items-items-init t c = ItemsLeft-none (value c.args.depth) c.args.reader.now
    (map data_of c.new-found.result.items) (ap (map data_of) c.new-found.ensures.items)

pub read_items-items-preserved : goal.read_items-items-preserved
read_items-items-preserved t c =
    let l = c.items in
    let going : (after_end_array l.reader ≡ None) × (c.take_end_array.new.self ≡ l.reader) = grind arith in
    let r = c.read_plain.new.reader in
    let v = c.in_ok-item.item in
    let shorter : length r < length l.reader = rw (← going.1) c.in_ok-item.ensures.shorter in
    let pushed : map data_of c.push.new.self.items ≡ map data_of l.found.items ++ data_of v ∷ [] =
    ap (map data_of) c.in_ok-push.ensures.items ∙ map-append data_of l.found.items (v ∷ []) in
    ItemsLeft-more (value c.args.depth) c.args.reader.now l.reader r (map data_of l.found.items) l.invariant
    (map data_of c.push.new.self.items) (data_of v) going.0 (rw (← going.1) c.in_ok-item.ensures.is) shorter pushed

pub read_items-returns-clause-are : goal.read_items-returns-clause-are
read_items-returns-clause-are t c =
    let l = c.items in
    items_over (value c.args.depth) c.args.reader.now l.reader c.take_end_array.new.self (map data_of l.found.items)
    l.invariant (grind arith)

pub read_members-members-preserved : goal.read_members-members-preserved
read_members-members-preserved t c =
    let p = value c.args.depth in
    let l = c.members in
    let n = l.invariant.0 in
    let old = members_of l.found.items in
    let k = c.in-Some.key in
    let s = c.next_key.new.self in
    let r = c.read_plain.new.reader in
    let v = c.in_ok-member.member in
    let key : read_key l.reader ≡ Some (Some k.now, s) = grind arith in
    let fewer = read_key-shorter l.reader (Some k.now) s key in
    let shorter = c.in_ok-member.ensures.shorter in
    let pushed : members_of c.push.new.self.items ≡ put k.now (data_of v) old =
    ap members_of c.in_ok-push.ensures.items ∙ members_of-push l.found.items (k, v) in (
      n - 1,
      omega (arith, l.invariant.1),
      l.invariant.2
          ∙ member_read p n old l.reader r k.now s (data_of v)
          (omega (arith, l.invariant.1)) key c.in_ok-member.ensures.is
          ∙ ap (λ found. converted (λ ms. of_members ms found) (members p (n - 1) r)) (sym pushed),
      omega (arith, l.invariant.3),
    )

pub read_members-returns-clause-are : goal.read_members-returns-clause-are
read_members-returns-clause-are t c =
    let p = value c.args.depth in
    let l = c.members in
    l.invariant.2
    ∙ members_over p l.invariant.0 (members_of l.found.items) l.reader c.next_key.new.self l.invariant.1 (grind arith)
