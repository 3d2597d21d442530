-- The reference is the first nominal time.
use Rattle.std.proofs.Common.{◌∙◌}
use Rattle.periodic.specs.Groups.{flows_in}
use Rattle.periodic.proofs.Among.{order-stands}
use Rattle.periodic.proofs.Kept.{told-by}
use Rattle.periodic.proofs.table.Table.told.Goals as goal

pub reference_from-requires-clause-sound : goal.reference_from-requires-clause-sound
reference_from-requires-clause-sound c =
    c.in-Some.ensures.flow c.self.inside.config (rw c.deref.ensures.value c.self.invariant.each)

pub returns : goal.returns
returns c =
    let a = c.self.inside in
    let flow = c.in-Some.flow.now in
    let among = rw c.deref.ensures.value at c.in-Some.ensures.among in
    let stands = order-stands flow among.0 (flows_in a.groups.items) among.1 c.args.sid c.in-Some.ensures.sid
    c.self.invariant.sound.ascending in
    let sound = c.in-Some.ensures.flow a.config (rw c.deref.ensures.value c.self.invariant.each) in
    let same = rw stands.found at (rw (← c.self.view_is) at c.requires.alike) in
    let starts = c.from_vec.ensures ∙ c.in_ok-starts.ensures.items ∙ c.as_slice.ensures in
    rw (← c.self.view_is, stands.found) (told-by a.config flow c.args.spec.now c.args.next sound same
    (record { reference = c.reference_from.result; starts = c.from_vec.result }) starts c.reference_from.ensures)
