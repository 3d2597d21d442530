-- A slot more is put right.
use Rattle.std.proofs.Common.{◌∙◌, ℕ, sym, ap, get_or, set, arith}
use Rattle.std.proofs.lemmas.List.{get_or_default}
use Rattle.std.proofs.lemmas.List.Edits.{map_over_more}
use Rattle.flow_book.specs.Slots.{moved}
use Rattle.flow_book.proofs.SlotOrders.{moved-from, moved-other}
use Rattle.flow_book.proofs.flows.renumber_all.Goals as goal
use Rattle.flow_book.proofs.flows.renumber_all.Goals.{then-slot-from, else-slot-from}

pub loop-slot-preserved : goal.loop-slot-preserved
loop-slot-preserved c =
    let from = c.args.from in
    let to = c.args.to in
    let first = c.args.order.now in
    let order = c.loop-slot.order in
    let i = c.loop-slot.slot-index in
    let x : ℕ = get_or order i 0 in
    let more =
    map_over_more (moved from to) first order i x c.loop-slot-test.true c.loop-slot.invariant
    (get_or_default order i 0 x (omega arith)) in
    elim c.if-slot-from.branch [
      | then-slot-from w ↦ w.order-is ∙ ap (set order i) (sym (moved-from from to x w.if-slot-from.true)) ∙ more
      | else-slot-from w ↦ w.order-is ∙ ap (set order i) (sym (moved-other from to x w.if-slot-from.false)) ∙ more
    ]
