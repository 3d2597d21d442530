-- The flow is put in a slot of its own.
use Rattle.std.proofs.Common.{◌≡◌, ◌≤◌, ◌<◌, ◌∙◌, ◌^◌, ap, length, map, insert, arith}
use Rattle.std.proofs.lemmas.Bool.{cond-true}
use Rattle.std.proofs.lemmas.List.{length_push}
use Rattle.flow_book.specs.Slots.{picked}
use Rattle.flow_book.proofs.SlotOrders.{IsOrder-insert}
use Rattle.flow_book.proofs.SlotBoxes.{length-values, picked-added}
use Rattle.flow_book.proofs.flows.Flows.insert.Goals as goal

pub insert-requires : goal.insert-requires
insert-requires c =
    let inside = c.self.inside in
    let many = length-values (λ b. b.value) inside.slots.items inside.order.items c.self.invariant in
    omega (arith, c.requires, ap length c.self.view_is, many, c.reserve.ensures.len, inside.order.ok.0)

within : (c : goal.After-insert) → c.args.place ≤ length c.self.inside.slots.items
within c =
    let inside = c.self.inside in
    let many = length-values (λ b. b.value) inside.slots.items inside.order.items c.self.invariant in
    omega (arith, c.requires, ap length c.self.view_is, many, c.self.invariant.as_many)

-- the slot behind all others is free
slot : (c : goal.After-insert) → c.in-Ok.slot ≡ length c.self.inside.slots.items
slot c = c.in-Ok.ensures.1 ∙ c.len.ensures ∙ c.self.inside.slots.ok.0

few : (c : goal.After-insert) → length c.self.inside.slots.items < 2 ^ 16
few c = omega (arith, c.in-Ok.ensures.0, slot c)

-- there is room for it
order : (c : goal.After-insert) → c.insert.new.self.items
    ≡ insert c.self.inside.order.items c.args.place (length c.self.inside.slots.items)
order c =
    let done = c.insert.ensures.succeeds (omega (arith, c.in_ok-reserve.ensures.ok)) in
    c.insert.ensures.items ∙ cond-true _ _ _ done
    ∙ ap (λ slots. insert slots c.args.place c.in-Ok.slot) c.reserve.ensures.items
    ∙ ap (λ s. insert c.self.inside.order.items c.args.place s) (slot c)

pub invariant_of-self-2 : goal.invariant_of-self-2
invariant_of-self-2 c =
    let boxes = c.self.inside.slots.items in
    rw (order c, c.in_ok-push.ensures.items, length_push boxes c.in_ok-flow.flow)
    (IsOrder-insert c.self.inside.order.items (length boxes) c.args.place c.self.invariant (within c) (few c))

pub returns-clause-ok : goal.returns-clause-ok
returns-clause-ok c =
    let boxes = c.self.inside.slots.items in
    let slots = c.self.inside.order.items in
    let place = c.args.place in
    ap (λ more. picked (map (λ b. b.value) c.push.new.self.items) more) (order c)
    ∙ ap (λ more. picked (map (λ b. b.value) more) (insert slots place (length boxes))) c.in_ok-push.ensures.items
    ∙ picked-added (λ b. b.value) boxes slots c.self.invariant place c.in_ok-flow.flow (within c) (few c)
    ∙ ap (λ f. insert (picked (map (λ b. b.value) boxes) slots) place f) c.in_ok-flow.ensures.ok
    ∙ ap (λ flows. insert flows place c.args.flow) c.self.view_is
