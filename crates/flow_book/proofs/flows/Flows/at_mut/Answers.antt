-- The flow is changed in its slot, and the others stay.
use Rattle.std.proofs.Common.{◌≡◌, ◌∙◌, ◌<◌, refl, ap, length, map, get_or, set, arith}
use Rattle.std.proofs.lemmas.List.{map-set, get_or_default}
use Rattle.flow_book.specs.Slots.{picked}
use Rattle.flow_book.proofs.Slots.{read-picked, picked-set}
use Rattle.flow_book.proofs.SlotBoxes.{IsOrder-values, length-values}
use Rattle.flow_book.proofs.flows.Flows.at_mut.Goals as goal

pub returns : goal.returns
returns c =
    let boxes = c.self.inside.slots.items in
    let slots = c.self.inside.order.items in
    let place = c.args.place in
    let slot = c.index.result.now in
    let here = c.index_mut-flow.result.now in
    let flow = c.deref_mut.result.now in
    let order = IsOrder-values (λ b. b.value) boxes slots c.self.invariant in
    let many = length-values (λ b. b.value) boxes slots c.self.invariant in
    let within : place < length slots = omega (arith, c.requires, ap length c.self.view_is, many) in
    let at : slot ≡ get_or slots place 0 = c.index.ensures ∙ get_or_default slots place slot 0 within in (
      (
        refl,
        λ w. ap (λ flows. picked flows slots) (map-set (λ b. b.value) boxes slot (record here { value = w }))
            ∙ ap (λ s. picked (set (map (λ b. b.value) boxes) s w) slots) at
            ∙ picked-set (map (λ b. b.value) boxes) slots place w order.below order.apart within
            ∙ ap (λ flows. set flows place w) c.self.view_is,
      ),
      record {
        lends = tt;
        value = read-picked (λ b. b.value) boxes slots place slot here flow order.below within
            c.index.ensures c.index_mut-flow.ensures.value c.deref_mut.ensures.value
            ∙ ap (λ flows. get_or flows place flow) c.self.view_is;
      },
    )
