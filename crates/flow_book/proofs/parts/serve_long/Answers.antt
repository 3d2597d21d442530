-- The first of both parts that may be served is next.
use Rattle.std.proofs.Common.{sym, arith}
use Rattle.minislots.proofs.Bounds.{bounds_of}
use Rattle.flow_book.proofs.Overlays.{next-begun, next-later, next-waits}
use Rattle.flow_book.proofs.parts.serve_long.Goals as goal

pub put_served-requires-clause-order : goal.put_served-requires-clause-order
put_served-requires-clause-order c = (c.requires.started.0, c.requires.started.1.order)

pub serve_one-granted-requires-clause-begun : goal.serve_one-granted-requires-clause-begun
serve_one-granted-requires-clause-begun c =
    let has = c.requires.started.1 in
    let next =
    (rw (c.all.ensures, c.deref.ensures.value) at c.in_ok-standing.ensures.next) c.requires.started.0 has in
    let here = rw (c.all-2.ensures, c.deref-2.ensures.value) at c.one_at-waiting.ensures in
    next-begun c.args.config.now c.requires.started.0 c.args.tiers.now c.args.queue.now c.args.served.now.items c.args.start
    c.args.room.slots c.in_ok-standing.standing c.one_at-waiting.result has next here

pub serve_one-granted-requires-clause-most : goal.serve_one-granted-requires-clause-most
serve_one-granted-requires-clause-most c =
    let bounds = bounds_of c.args.config.now c.in_ok-standing.ensures.lawful in
    omega (arith, bounds.cap_most, c.requires.room)

pub put_served-requires-clause-here : goal.put_served-requires-clause-here
put_served-requires-clause-here c =
    let config = c.args.config.now in
    let items = c.requires.started.0 in
    let has = c.requires.started.1 in
    let queue = c.args.queue.now in
    let served = c.args.served.now.items in
    let slots = c.args.room.slots in
    let at = c.in_ok-standing.standing in
    let w = c.one_at-waiting.result in
    let next = (rw (c.all.ensures, c.deref.ensures.value) at c.in_ok-standing.ensures.next) items has in
    let here = rw (c.all-2.ensures, c.deref-2.ensures.value) at c.one_at-waiting.ensures in
    let waits = next-waits config items queue served c.args.start slots at w here next in
    let late =
    next-later config items c.args.tiers.now queue served c.args.start slots at w has next here c.serve_one-granted.new.waiting.turn
    c.serve_one-granted.ensures.later in
    (w, here, waits, late)

pub returns-clause-next : goal.returns-clause-next
returns-clause-next c = λ items has.
    let queue = c.args.queue.now in
    let served = c.args.served.now.items in
    let at = c.in_ok-standing.standing in
    let w = c.one_at-waiting.result in
    let next = (rw (c.all.ensures, c.deref.ensures.value) at c.in_ok-standing.ensures.next) items has in
    let here = rw (c.all-2.ensures, c.deref-2.ensures.value) at c.one_at-waiting.ensures in
    let waits = next-waits c.args.config.now items queue served c.args.start c.args.room.slots at w here next in
    record {
      at = at;
      waiting = w;
      new = c.serve_one-granted.new.waiting;
      here = here;
      next = next;
      granted = rw c.quantum.ensures.value at c.serve_one-granted.ensures;
      put = c.put_served.ensures.put items w has.order here waits (sym c.serve_one-granted.ensures.place);
    }
