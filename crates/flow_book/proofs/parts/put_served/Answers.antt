-- One of the queue goes to those served, and one of those served moves back among them.
use Rattle.std.proofs.Common.{◌≡◌, ◌∙◌, ap, sym, subst, Some, true, slice_get, length, remove, arith}
use Rattle.std.proofs.lemmas.List.{take_at}
use Rattle.std.proofs.lemmas.Option.{slice_get_within, get_or_from_slice_get}
use Rattle.flow_book.specs.declared.waiting.Waiting.{Waiting}
use Rattle.flow_book.specs.Queue.{HasRoom}
use Rattle.flow_book.proofs.InParts.{put-again}
use Rattle.flow_book.proofs.Queues.{with-one}
use Rattle.flow_book.proofs.Searches.{rises}
use Rattle.flow_book.proofs.parts.put_served.Goals as goal

pub put_queued-requires-clause-here : goal.put_queued-requires-clause-here
put_queued-requires-clause-here c =
    let here : slice_get c.args.queue.now c.in-Queued.index ≡ Some c.requires.here.0 =
    rw c.in-Queued.is at c.requires.here.1 in
    (c.requires.here.0, here, c.requires.here.2, c.requires.here.3)

pub move_back-requires-clause-within : goal.move_back-requires-clause-within
move_back-requires-clause-within c =
    let here : slice_get c.args.served.now.items c.in-Served.index ≡ Some c.requires.here.0 =
    rw c.in-Served.is at c.requires.here.1 in
    rw c.deref_mut.ensures.value (slice_get_within c.args.served.now.items c.in-Served.index c.requires.here.0 here)

pub move_back-requires-clause-before : goal.move_back-requires-clause-before
move_back-requires-clause-before c = λ k d early.
    let served = c.args.served.now.items in
    let index = c.in-Served.index in
    let w = c.requires.here.0 in
    let here : slice_get served index ≡ Some w = rw c.in-Served.is at c.requires.here.1 in
    let parts = c.requires.order.1 in
    let lt = slice_get_within served index w here in
    let less = rises (λ (v : Waiting). v.turn) served k index d parts.served_ones.ascending early lt in
    let read = ap (λ (v : Waiting). v.turn) (get_or_from_slice_get served index w d here) in
    rw c.deref_mut.ensures.value (omega (arith, less, read, c.requires.here.3))

pub returns-in-Queued-clause-put : goal.returns-in-Queued-clause-put
returns-in-Queued-clause-put c = λ items w order here still same.
    let at : slice_get c.args.queue.now c.in-Queued.index ≡ Some w = rw c.in-Queued.is at here in
    c.put_queued.ensures.put items w order at still same

pub returns-in-Served-clause-put : goal.returns-in-Served-clause-put
returns-in-Served-clause-put c = λ items w order here still same.
    let served = c.args.served.now in
    let new = c.move_back.new.queue in
    let at : slice_get served.items c.in-Served.index ≡ Some w = rw c.in-Served.is at here in
    let moved : new ≡ with-one c.args.waiting (remove served.items c.in-Served.index) =
    rw c.deref_mut.ensures.value at c.move_back.ensures.moved in
    let long : length new ≡ served.len =
    omega (arith, c.move_back.ensures.len, ap length c.deref_mut.ensures.value, served.ok.0) in
    put-again items c.args.queue.now served.items order c.in-Served.index w c.args.waiting same _ at
    (take_at new _ served.len long ∙ moved)

pub returns-in-Served-clause-room : goal.returns-in-Served-clause-room
returns-in-Served-clause-room c =
    let served = c.args.served.now in
    let new = c.move_back.new.queue in
    let long : length new ≡ served.len =
    omega (arith, c.move_back.ensures.len, ap length c.deref_mut.ensures.value, served.ok.0) in
    subst (λ ws. HasRoom true c.args.queue.now ws served.cap) (sym (take_at new _ served.len long))
    (λ yes'. omega (arith, c.requires.room yes', long, served.ok.0))
