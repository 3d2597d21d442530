-- The members are noted one by one, and make the call.
use Rattle.std.proofs.Common.{◌≡◌, ◌∷◌, false, codes, refl, sym, ap, ◌∙◌}
use Rattle.json.specs.Token as token
use Rattle.json.specs.Json.{read_key}
use Rattle.serde_json.specs.Data.{string, number, unsigned}
use Rattle.call_reading.specs.declared.field.Field.TheVariants.{Heard}
use Rattle.call_reading.specs.Seen.{nothing, seen_with, seen_of, seen_amount, seen_ask}
use Rattle.call_reading.proofs.Fields.{plain_ask}
use Rattle.call_reading.proofs.Made.{none_said, one_more, call_ends, name_noted, number_noted, ask_named}
use Rattle.call_reading.proofs.usual_call.usual_ask.Goals as goal

pub returns : goal.returns
unfolding seen_amount seen_ask
returns c = λ depth.
    let ts = c.args.reader.now in
    let r1 = c.number_under.new.reader in
    let r2 = c.take_named.new.reader in
    let r3 = c.take_wide_number.new.self in
    let r4 = c.number_under-2.new.reader in
    let r5 = c.number_under-3.new.reader in
    let first : r1 ≡ token.key (codes "call") ∷ token.string (codes "ask") ∷ token.key (codes "heard") ∷ r2 =
    c.take_named.ensures c.if-not-take_named.false (codes "ask") Heard plain_ask refl refl refl in
    let left = token.key (codes "heard") ∷ r2 in
    let n = c.in_ok-at.at in
    let taken = c.in_ok-at.ensures in
    let s1 = seen_with (codes "bytes") (number (unsigned c.in_ok-bytes.bytes)) nothing in
    let s2 = seen_with (codes "call") (string (codes "ask")) s1 in
    let s3 = seen_with (codes "heard") (number (unsigned n)) s2 in
    let s4 = seen_with (codes "receiver") (number (unsigned c.in_ok-receiver.receiver)) s3 in
    let s5 = seen_with (codes "sid") (number (unsigned c.in_ok-sid.sid)) s4 in
    let name = name_noted depth r1 (token.string (codes "ask") ∷ left) left s1 (codes "ask") (ap read_key first) refl in
    let none : (seen_of c.nothing-found.result).has_slots ≡ false =
    ap (λ s. s.has_slots) c.nothing-found.ensures in
    let said1 = one_more depth ts ts r1 nothing s1 (none_said depth ts) (c.in_ok-bytes.ensures depth nothing) in
    let said2 = one_more depth ts r1 left s1 s2 said1 name in
    let said3 = one_more depth ts left r3 s2 s3 said2
    (number_noted depth left r2 r3 s2 (codes "heard") n refl taken.0 taken.1) in
    let said4 = one_more depth ts r3 r4 s3 s4 said3 (c.in_ok-receiver.ensures depth s3) in
    let said5 = one_more depth ts r4 r5 s4 s5 said4 (c.in_ok-sid.ensures depth s4) in
    call_ends depth ts r5 c.take_end_object.new.self s5 c.in_ok-call.call said5
    (ap read_key (rw c.if-not-take_end_object.false at c.take_end_object.ensures))
    (ask_named s5 refl ∙ sym (rw none at c.in_ok-call.ensures))
    refl
