-- The slot is found where its SID stands.
use Rattle.flow_book.proofs.SlotOrders.{set-moved}
use Rattle.flow_book.proofs.flows.renumber.Goals as goal

pub returns-then-order-place : goal.returns-then-order-place
returns-then-order-place c =
    let h1 = c.if-order-place.true in
    let h2 = c.in-Some.ensures.within in
    set-moved c.args.order.now c.in-Some.place c.args.from c.args.to c.requires c.in-Some.ensures.within
    c.if-order-place.true
