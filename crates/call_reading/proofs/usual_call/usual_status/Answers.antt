-- The name and the number behind it are noted, and make the call.
use Rattle.std.proofs.Common.{◌≡◌, ◌∷◌, codes, refl, sym, ap, ◌∙◌}
use Rattle.json.specs.Token as token
use Rattle.json.specs.Json.{read_key}
use Rattle.serde_json.specs.Data.{string, number, unsigned}
use Rattle.call_reading.specs.declared.field.Field.TheVariants.{Sid}
use Rattle.call_reading.specs.Seen.{nothing, seen_with, seen_status}
use Rattle.call_reading.proofs.Fields.{plain_status}
use Rattle.call_reading.proofs.Made.{none_said, one_more, call_ends, name_noted, number_noted, status_named}
use Rattle.call_reading.proofs.usual_call.usual_status.Goals as goal

pub returns : goal.returns
unfolding seen_status
returns c = λ depth.
    let ts = c.args.reader.now in
    let r1 = c.take_named.new.reader in
    let r2 = c.take_short_number.new.self in
    let first : ts ≡ token.key (codes "call") ∷ token.string (codes "status") ∷ token.key (codes "sid") ∷ r1 =
    c.take_named.ensures c.if-not-take_named.false (codes "status") Sid plain_status refl refl refl in
    let left = token.key (codes "sid") ∷ r1 in
    let n = c.in_ok-sid.sid in
    let taken = c.in_ok-sid.ensures in
    let a = seen_with (codes "call") (string (codes "status")) nothing in
    let b = seen_with (codes "sid") (number (unsigned n)) a in
    let name = name_noted depth ts (token.string (codes "status") ∷ left) left nothing (codes "status")
    (ap read_key first) refl in
    let said = number_noted depth left r1 r2 a (codes "sid") n refl taken.0 taken.1 in
    call_ends depth ts r2 c.take_end_object.new.self b c.in_ok-call.call
    (one_more depth ts left r2 a b (one_more depth ts ts left nothing a (none_said depth ts) name) said)
    (ap read_key (rw c.if-not-take_end_object.false at c.take_end_object.ensures))
    (status_named b refl ∙ sym c.in_ok-call.ensures)
    refl
