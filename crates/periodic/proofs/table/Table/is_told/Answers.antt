-- There is one reference.
use Rattle.std.proofs.Common.{sym, ◌∙◌, ◌%◌}
use Rattle.std.specs.Cmp.Lexicographic.{same_text, other_text}
use Rattle.periodic.specs.Groups.{flows_in}
use Rattle.periodic.proofs.Among.{order-stands, none-placed}
use Rattle.periodic.proofs.Kept.{one-reference, told-by, reference-told}
use Rattle.periodic.proofs.Numbered.{some-frames}
use Rattle.periodic.proofs.table.Table.is_told.Goals as goal

pub returns-in_default-clause-other : goal.returns-in_default-clause-other
returns-in_default-clause-other c =
    absurd (none-placed c.args.sid (flows_in c.self.inside.groups.items)
    (rw c.deref.ensures.value at c.in_default.ensures.absent) (rw (← c.self.view_is) at c.requires.placed))

pub reference_from-requires-clause-sound : goal.reference_from-requires-clause-sound
reference_from-requires-clause-sound c =
    c.in-Some.ensures.flow c.self.inside.config (rw c.deref.ensures.value c.self.invariant.each)

pub returns-then-placement-reference_from-clause-other :
    goal.returns-then-placement-reference_from-clause-other
returns-then-placement-reference_from-clause-other c = λ is.
    let a = c.self.inside in
    let flow = c.in-Some.flow.now in
    let among = rw c.deref.ensures.value at c.in-Some.ensures.among in
    let stands = order-stands flow among.0 (flows_in a.groups.items) among.1 c.args.sid c.in-Some.ensures.sid
    c.self.invariant.sound.ascending in
    let sound = c.in-Some.ensures.flow a.config (rw c.deref.ensures.value c.self.invariant.each) in
    let same = rw stands.found at (rw (← c.self.view_is) at c.requires.alike) in
    rw (← c.self.view_is, stands.found) (λ told.
    c.if-placement-reference_from.true
    (one-reference a.config flow.interval c.args.next flow.phase (flow.placement.reference % a.config.frame) _ _
    (some-frames a.config flow sound)
    (reference-told a.config flow c.args.spec.now c.args.next sound same c.args.placement.now told)
    c.reference_from.ensures))

pub returns-clause-told : goal.returns-clause-told
returns-clause-told c = λ is.
    let a = c.self.inside in
    let flow = c.in-Some.flow.now in
    let among = rw c.deref.ensures.value at c.in-Some.ensures.among in
    let stands = order-stands flow among.0 (flows_in a.groups.items) among.1 c.args.sid c.in-Some.ensures.sid
    c.self.invariant.sound.ascending in
    let sound = c.in-Some.ensures.flow a.config (rw c.deref.ensures.value c.self.invariant.each) in
    let same = rw stands.found at (rw (← c.self.view_is) at c.requires.alike) in
    let starts = sym c.as_slice.ensures
    ∙ same_text c.as_slice.result.now c.as_slice-2.result.now (sym is ∙ c.eq.ensures)
    ∙ c.as_slice-2.ensures in
    let reference = rw (← c.if-placement-reference_from.false) at c.reference_from.ensures in
    rw (← c.self.view_is, stands.found) (told-by a.config flow c.args.spec.now c.args.next sound same
    c.args.placement.now starts reference)

pub returns-clause-other : goal.returns-clause-other
returns-clause-other c = λ is.
    let a = c.self.inside in
    let flow = c.in-Some.flow.now in
    let among = rw c.deref.ensures.value at c.in-Some.ensures.among in
    let stands = order-stands flow among.0 (flows_in a.groups.items) among.1 c.args.sid c.in-Some.ensures.sid
    c.self.invariant.sound.ascending in
    rw (← c.self.view_is, stands.found) (λ told.
    other_text c.as_slice.result.now c.as_slice-2.result.now (sym is ∙ c.eq.ensures)
    (c.as_slice.ensures ∙ told.starts ∙ sym c.as_slice-2.ensures))
