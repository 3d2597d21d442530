-- The flow is read in its slot.
use Rattle.std.proofs.Common.{◌∙◌, ◌<◌, ap, length, get_or, arith}
use Rattle.flow_book.proofs.Slots.{read-picked}
use Rattle.flow_book.proofs.SlotBoxes.{IsOrder-values, length-values}
use Rattle.flow_book.proofs.flows.Flows.at.Goals as goal

pub returns : goal.returns
returns c =
    let boxes = c.self.inside.slots.items in
    let slots = c.self.inside.order.items in
    let place = c.args.place in
    let flow = c.deref.result.now in
    let order = IsOrder-values (λ b. b.value) boxes slots c.self.invariant in
    let many = length-values (λ b. b.value) boxes slots c.self.invariant in
    let within : place < length slots = omega (arith, c.requires, ap length c.self.view_is, many) in
    read-picked (λ b. b.value) boxes slots place c.index.result.now c.index-2.result.now flow order.below within
    c.index.ensures c.index-2.ensures c.deref.ensures
    ∙ ap (λ flows. get_or flows place flow) c.self.view_is
