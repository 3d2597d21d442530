-- The slot of the flow is found.
use Rattle.std.proofs.Common.{◌∙◌, ap, map, position, ◌==◌}
use Rattle.flow_book.specs.declared.flow.Flow.{Flow}
use Rattle.flow_book.proofs.SlotBoxes.{IsOrder-values}
use Rattle.flow_book.proofs.SlotSids.{ascends-slots, position-picked}
use Rattle.flow_book.proofs.flows.Flows.place_of.Goals as goal

pub returns : goal.returns
returns c =
    let boxes = c.self.inside.slots.items in
    let flows = map (λ b. b.value) boxes in
    let slots = c.self.inside.order.items in
    let order = IsOrder-values (λ b. b.value) boxes slots c.self.invariant in
    let facts = rw (c.deref.ensures.value, c.deref-2.ensures.value) at c.find.ensures in
    let up = ascends-slots flows slots order.below (rw (← c.self.view_is) at c.requires) in
    facts.value up
    ∙ position-picked flows slots order.below c.args.sid
    ∙ ap (position (λ (f : Flow). f.sid == c.args.sid)) c.self.view_is
