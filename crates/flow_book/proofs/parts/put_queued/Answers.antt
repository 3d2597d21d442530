-- It goes to those served, and wants nothing in the queue any more.
use Rattle.std.proofs.Common.{refl, ap, get_or, length, arith}
use Rattle.std.proofs.lemmas.Option.{slice_get_within}
use Rattle.flow_book.specs.declared.waiting.Waiting.{Waiting}
use Rattle.flow_book.proofs.InParts.{put-queued, none-set, fewer-wait, one-waits}
use Rattle.sched_calls.proofs.Insertion.{length-put_in}
use Rattle.flow_book.proofs.parts.put_queued.Goals as goal

pub put_reserved-requires-clause-room : goal.put_reserved-requires-clause-room
put_reserved-requires-clause-room c =
    let here = c.requires.here in
    omega (
      arith,
      c.requires.room refl,
      one-waits c.args.queue.now c.args.index here.0 here.1 here.2,
    )

pub put_reserved-requires-clause-ascending : goal.put_reserved-requires-clause-ascending
put_reserved-requires-clause-ascending c = c.requires.order.1.served_ones.ascending

pub make_idle-requires : goal.make_idle-requires
make_idle-requires c =
    slice_get_within c.args.queue.now c.args.index c.requires.here.0 c.requires.here.1

pub returns-clause-put : goal.returns-clause-put
returns-clause-put c = λ items w order here still same.
    rw (c.make_idle.ensures c.requires.here.0) (put-queued items c.args.queue.now c.args.served.now.items order c.args.index w c.args.waiting same
    (record (get_or c.args.queue.now c.args.index c.requires.here.0) { wants = 0 }) c.put_reserved.new.served.items here still refl
    c.put_reserved.ensures.put)

pub returns-clause-passed : goal.returns-clause-passed
returns-clause-passed c = λ first none.
    rw (c.make_idle.ensures c.requires.here.0) (none-set first c.args.queue.now c.args.index
    (record (get_or c.args.queue.now c.args.index c.requires.here.0) { wants = 0 }) refl none)

pub returns-clause-room : goal.returns-clause-room
returns-clause-room c = λ yes'.
    let here = c.requires.here in
    rw (c.make_idle.ensures c.requires.here.0) (omega (
      arith,
      c.requires.room yes',
      ap length c.put_reserved.ensures.put,
      length-put_in (λ (v : Waiting). v.turn) c.args.waiting c.args.served.now.items,
      fewer-wait c.args.queue.now c.args.index here.0 (record (get_or c.args.queue.now c.args.index c.requires.here.0) { wants = 0 }) here.1 here.2
          refl,
      c.put_reserved.ensures.capacity,
    ))
