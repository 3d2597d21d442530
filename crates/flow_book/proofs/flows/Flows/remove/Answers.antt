-- The flow is taken out of its slot, and that of the last slot is moved there.
use Rattle.std.proofs.Common.{◌≡◌, ◌<◌, ◌∙◌, ◌+◌, ◌-◌, sym, ap, subst, length, map, remove, get_or, arith}
use Rattle.std.proofs.lemmas.List.{length-map, take_at, get_or_default}
use Rattle.flow_book.specs.Slots.{picked, IsOrder, moved}
use Rattle.flow_book.proofs.SlotOrders.{IsOrder-taken}
use Rattle.flow_book.proofs.SlotBoxes.{IsFilled, length-values, picked-taken}
use Rattle.flow_book.proofs.flows.Flows.remove.Goals as goal

within : (c : goal.After-drop-swap_remove) → c.args.place < length c.self.inside.order.items
within c =
    let many = length-values (λ b. b.value) c.self.inside.slots.items c.self.inside.order.items c.self.invariant in
    omega (arith, c.requires, ap length c.self.view_is, many)

-- the last slot is the one before the end
full : (c : goal.After-drop-swap_remove) → length c.self.inside.slots.items ≡ c.len.result - 1 + 1
full c = omega (arith, c.len.ensures, c.self.inside.slots.ok.0, c.self.invariant.as_many, within c)

few : (c : goal.After-drop-swap_remove) → length c.swap_remove.new.self.items ≡ c.len.result - 1
few c = omega (arith, c.swap_remove.ensures.len, c.swap_remove.new.self.ok.0, c.self.inside.slots.ok.0, full c)

slot : (c : goal.After-drop-swap_remove) → c.remove-slot.result ≡ get_or c.self.inside.order.items c.args.place 0
slot c =
    c.remove-slot.ensures.value
    ∙ get_or_default c.self.inside.order.items c.args.place c.remove-slot.result 0 (within c)

long : (c : goal.After-drop-swap_remove) → length c.renumber.new.order ≡ c.remove-slot.new.self.len
long c =
    omega (
      arith,
      ap length c.renumber.ensures,
      c.deref_mut.ensures.len,
      length-map c.deref_mut.result.now (moved (c.len.result - 1) c.remove-slot.result),
    )

-- the last slot is put for the one that was taken out
order : (c : goal.After-drop-swap_remove) → c.renumber.new.order
    ≡ map (moved (c.len.result - 1) (get_or c.self.inside.order.items c.args.place 0))
    (remove c.self.inside.order.items c.args.place)
order c =
    c.renumber.ensures
    ∙ ap (map (moved (c.len.result - 1) c.remove-slot.result)) (c.deref_mut.ensures.value ∙ c.remove-slot.ensures.items)
    ∙ ap (λ s. map (moved (c.len.result - 1) s) (remove c.self.inside.order.items c.args.place)) (slot c)

-- and its box
filled : (c : goal.After-drop-swap_remove) → IsFilled c.self.inside.slots.items c.swap_remove.new.self.items
    (c.len.result - 1) (get_or c.self.inside.order.items c.args.place 0) c.swap_remove.result
filled c =
    let boxes = c.self.inside.slots in
    let rest = c.swap_remove.new.self.items in
    let box = c.swap_remove.result in
    record {
      as_many = few c;
      filled = λ lt. ap (λ k. get_or rest k box) (sym (slot c))
          ∙ c.swap_remove.ensures.by_index.0 box (omega (arith, slot c, boxes.ok.0, full c))
          ∙ ap (λ k. get_or boxes.items k box) (omega (arith, boxes.ok.0, full c));
      same = λ s other lt. c.swap_remove.ensures.by_index.1 s box (λ at. other (at ∙ slot c))
          (omega (arith, boxes.ok.0, full c));
    }

pub invariant_of-self : goal.invariant_of-self
invariant_of-self c =
    let last = c.len.result - 1 in
    let is = take_at c.renumber.new.order _ c.remove-slot.new.self.len (long c) ∙ order c in
    rw (few c) (subst (λ slots. IsOrder slots last) (sym is)
    (IsOrder-taken c.self.inside.order.items last c.args.place (rw (full c) at c.self.invariant) (within c)))

pub returns : goal.returns
returns c =
    let rest = c.swap_remove.new.self.items in
    let is = take_at c.renumber.new.order _ c.remove-slot.new.self.len (long c) ∙ order c in
    ap (picked (map (λ b. b.value) rest)) is
    ∙ picked-taken (λ b. b.value) c.self.inside.slots.items c.self.inside.order.items c.self.invariant rest
    (c.len.result - 1) c.args.place c.swap_remove.result (full c) (within c) (filled c)
    ∙ ap (λ flows. remove flows c.args.place) c.self.view_is
