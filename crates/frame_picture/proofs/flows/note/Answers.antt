-- A turn changes what is told of its SID, and any other entry nothing.
use Rattle.std.proofs.Common.{◌<◌, length, sym, ◌∙◌, arith}
use Rattle.frame_picture.proofs.Turning.{tells_still, tells_other}
use Rattle.frame_picture.proofs.flows.note.Goals as goal

pub returns-in-Some : goal.returns-in-Some
returns-in-Some c =
    let turn = sym c.turn_of.ensures ∙ c.in-Some.is in
    let small : c.in-Some.sid < length c.args.flows.now =
    omega (arith, c.place_of.ensures.value, c.place_of.ensures.small, c.told-flows) in
    rw c.place_of.ensures.value
    (λ h tells. tells_other c.args.flows.now h c.args.entry.now c.in-Some.sid c.in-Some.unsolicited turn small tells)

pub returns-in_default : goal.returns-in_default
returns-in_default c = λ h tells.
    tells_still c.args.flows.now h c.args.entry.now (sym c.turn_of.ensures ∙ c.in_default.is) tells
