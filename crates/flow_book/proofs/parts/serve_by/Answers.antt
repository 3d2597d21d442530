-- The first of the queue that may be served is next.
use Rattle.std.proofs.Common.{◌≡◌, ◌∙◌, ◌<◌, ℕ, refl, sym, ap, [], List, Some, None, slice_get, get_or, length, arith}
use Rattle.std.proofs.lemmas.Option.{slice_get-get_or}
use Rattle.minislots.proofs.Bounds.{bounds_of}
use Rattle.flow_book.specs.declared.waiting.Waiting.{Waiting}
use Rattle.flow_book.specs.declared.parts.Standing.TheVariants.{Queued}
use Rattle.flow_book.proofs.InParts.{queued-part, alone-next, next-alone}
use Rattle.flow_book.proofs.Overlays.{next-begun, next-later, next-waits}
use Rattle.flow_book.proofs.parts.serve_by.Goals as goal

read-here : (queue : List Waiting) (i : ℕ) (w : Waiting) → i < length queue → w ≡ get_or queue i w
    → slice_get queue i ≡ Some w
read-here queue i w lt is = slice_get-get_or queue i w lt ∙ ap Some (sym is)

pub returns-in_err-first-clause-next : goal.returns-in_err-first-clause-next
returns-in_err-first-clause-next c = λ items short has.
    let config = c.args.config.now in
    let queue = c.args.queue.now in
    let tiers = c.args.tiers.now in
    let part = queued-part config items tiers queue [] c.args.start c.args.room.slots has in
    rw c.from_residual.ensures
    (alone-next config items tiers queue [] c.args.start c.args.room.slots has None refl
    (c.in_err-first.ensures.next items part))

pub serve_one-granted-requires-clause-begun : goal.serve_one-granted-requires-clause-begun
serve_one-granted-requires-clause-begun c =
    let config = c.args.config.now in
    let items = c.requires.started.0 in
    let has = c.requires.started.2 in
    let queue = c.args.queue.now in
    let slots = c.args.room.slots in
    let index = c.soonest_of-index.result in
    let tiers = c.args.tiers.now in
    let part = queued-part config items tiers queue [] c.args.start slots has in
    let is =
    next-alone config items tiers queue [] c.args.start slots has index refl
    (c.soonest_of-index.ensures.next items part) in
    let here =
    read-here queue index c.index-queue-index.result c.soonest_of-index.ensures.within c.index-queue-index.is in
    next-begun config items tiers queue [] c.args.start slots (Queued index) c.index-queue-index.result has is here

pub serve_one-granted-requires-clause-most : goal.serve_one-granted-requires-clause-most
serve_one-granted-requires-clause-most c =
    let bounds = bounds_of c.args.config.now c.in_ok-first.ensures.lawful in
    omega (arith, bounds.cap_most, c.requires.room)

pub put_short-requires-clause-here : goal.put_short-requires-clause-here
put_short-requires-clause-here c =
    let config = c.args.config.now in
    let items = c.requires.started.0 in
    let has = c.requires.started.2 in
    let queue = c.args.queue.now in
    let slots = c.args.room.slots in
    let index = c.soonest_of-index.result in
    let w = c.index-queue-index.result in
    let tiers = c.args.tiers.now in
    let part = queued-part config items tiers queue [] c.args.start slots has in
    let is =
    next-alone config items tiers queue [] c.args.start slots has index refl
    (c.soonest_of-index.ensures.next items part) in
    let here =
    read-here queue index w c.soonest_of-index.ensures.within c.index-queue-index.is in
    let waits = next-waits config items queue [] c.args.start slots (Queued index) w here is in
    let late =
    next-later config items tiers queue [] c.args.start slots (Queued index) w has is here
    c.serve_one-granted.new.waiting.turn c.serve_one-granted.ensures.later in
    (w, here, waits, late)

pub returns-clause-next : goal.returns-clause-next
returns-clause-next c = λ items short has.
    let config = c.args.config.now in
    let queue = c.args.queue.now in
    let slots = c.args.room.slots in
    let index = c.soonest_of-index.result in
    let w = c.index-queue-index.result in
    let tiers = c.args.tiers.now in
    let part = queued-part config items tiers queue [] c.args.start slots has in
    let is =
    next-alone config items tiers queue [] c.args.start slots has index refl
    (c.soonest_of-index.ensures.next items part) in
    let here =
    read-here queue index w c.soonest_of-index.ensures.within c.index-queue-index.is in
    let waits = next-waits config items queue [] c.args.start slots (Queued index) w here is in
    record {
      at = Queued index;
      waiting = w;
      new = c.serve_one-granted.new.waiting;
      here = here;
      next = is;
      granted = rw c.quantum.ensures.value at c.serve_one-granted.ensures;
      put = (c.put_short.ensures items w short here waits (sym c.serve_one-granted.ensures.place), refl);
    }
