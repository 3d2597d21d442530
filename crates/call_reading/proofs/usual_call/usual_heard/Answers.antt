-- The name, the receiver and the minislot are noted, and make the call.
use Rattle.std.proofs.Common.{◌≡◌, ◌∷◌, codes, refl, sym, ap, ◌∙◌}
use Rattle.json.specs.Token as token
use Rattle.json.specs.Json.{read_key}
use Rattle.serde_json.specs.Data.{string, number, unsigned}
use Rattle.call_reading.specs.declared.field.Field.TheVariants.{Receiver}
use Rattle.call_reading.specs.Seen.{nothing, seen_with, seen_heard}
use Rattle.call_reading.proofs.Fields.{plain_heard}
use Rattle.call_reading.proofs.Made.{none_said, one_more, call_ends, name_noted, number_noted, heard_named}
use Rattle.call_reading.proofs.usual_call.usual_heard.Goals as goal

pub returns : goal.returns
unfolding seen_heard
returns c = λ depth.
    let ts = c.args.reader.now in
    let r1 = c.take_named.new.reader in
    let r2 = c.take_short_number.new.self in
    let r3 = c.minislots_under.new.reader in
    let first : ts ≡ token.key (codes "call") ∷ token.string (codes "heard") ∷ token.key (codes "receiver") ∷ r1 =
    c.take_named.ensures c.if-not-take_named.false (codes "heard") Receiver plain_heard refl refl refl in
    let left = token.key (codes "receiver") ∷ r1 in
    let n = c.in_ok-receiver.receiver in
    let taken = c.in_ok-receiver.ensures in
    let s1 = seen_with (codes "call") (string (codes "heard")) nothing in
    let s2 = seen_with (codes "receiver") (number (unsigned n)) s1 in
    let s3 = seen_with (codes "upto") (number (unsigned c.in_ok-upto.upto)) s2 in
    let name = name_noted depth ts (token.string (codes "heard") ∷ left) left nothing (codes "heard")
    (ap read_key first) refl in
    let said1 = one_more depth ts ts left nothing s1 (none_said depth ts) name in
    let said2 = one_more depth ts left r2 s1 s2 said1
    (number_noted depth left r1 r2 s1 (codes "receiver") n refl taken.0 taken.1) in
    let said3 = one_more depth ts r2 r3 s2 s3 said2 (c.in_ok-upto.ensures depth s2) in
    call_ends depth ts r3 c.take_end_object.new.self s3 c.in_ok-call.call said3
    (ap read_key (rw c.if-not-take_end_object.false at c.take_end_object.ensures))
    (heard_named s3 refl ∙ sym c.in_ok-call.ensures)
    refl
