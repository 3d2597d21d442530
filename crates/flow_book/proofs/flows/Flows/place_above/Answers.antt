-- The slot of the flow behind is found.
use Rattle.std.proofs.Common.{◌∙◌, ap, map, nat_lt}
use Rattle.std.specs.List.{position_or_len}
use Rattle.flow_book.specs.declared.flow.Flow.{Flow}
use Rattle.flow_book.proofs.SlotBoxes.{IsOrder-values}
use Rattle.flow_book.proofs.SlotSids.{ascends-slots, position_or_len-picked}
use Rattle.flow_book.proofs.flows.Flows.place_above.Goals as goal

pub returns-clause-place : goal.returns-clause-place
returns-clause-place c =
    let boxes = c.self.inside.slots.items in
    let flows = map (λ b. b.value) boxes in
    let slots = c.self.inside.order.items in
    let order = IsOrder-values (λ b. b.value) boxes slots c.self.invariant in
    let facts = rw (c.deref.ensures.value, c.deref-2.ensures.value) at c.find_above.ensures in
    let up = ascends-slots flows slots order.below (rw (← c.self.view_is) at c.requires) in
    facts.value up
    ∙ position_or_len-picked flows slots order.below c.args.sid
    ∙ ap (position_or_len (λ (f : Flow). nat_lt c.args.sid f.sid)) c.self.view_is
