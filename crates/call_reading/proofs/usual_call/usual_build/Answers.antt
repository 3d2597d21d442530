-- The name and the number behind it are noted, and make the call.
use Rattle.std.proofs.Common.{◌≡◌, ◌∷◌, codes, refl, sym, ap, ◌∙◌}
use Rattle.json.specs.Token as token
use Rattle.json.specs.Json.{read_key}
use Rattle.serde_json.specs.Data.{string, number, unsigned}
use Rattle.call_reading.specs.declared.field.Field.TheVariants.{Time}
use Rattle.call_reading.specs.Seen.{nothing, seen_with, seen_build}
use Rattle.call_reading.proofs.Fields.{plain_build}
use Rattle.call_reading.proofs.Made.{none_said, one_more, call_ends, name_noted, number_noted, build_named}
use Rattle.call_reading.proofs.usual_call.usual_build.Goals as goal

pub returns : goal.returns
unfolding seen_build
returns c = λ depth.
    let ts = c.args.reader.now in
    let r1 = c.take_named.new.reader in
    let r2 = c.take_wide_number.new.self in
    let first : ts ≡ token.key (codes "call") ∷ token.string (codes "build") ∷ token.key (codes "now") ∷ r1 =
    c.take_named.ensures c.if-not-take_named.false (codes "build") Time plain_build refl refl refl in
    let left = token.key (codes "now") ∷ r1 in
    let n = c.in_ok-now.now in
    let taken = c.in_ok-now.ensures in
    let a = seen_with (codes "call") (string (codes "build")) nothing in
    let b = seen_with (codes "now") (number (unsigned n)) a in
    let name = name_noted depth ts (token.string (codes "build") ∷ left) left nothing (codes "build")
    (ap read_key first) refl in
    let said = number_noted depth left r1 r2 a (codes "now") n refl taken.0 taken.1 in
    call_ends depth ts r2 c.take_end_object.new.self b c.in_ok-call.call
    (one_more depth ts left r2 a b (one_more depth ts ts left nothing a (none_said depth ts) name) said)
    (ap read_key (rw c.if-not-take_end_object.false at c.take_end_object.ensures))
    (build_named b refl ∙ sym c.in_ok-call.ensures)
    refl
