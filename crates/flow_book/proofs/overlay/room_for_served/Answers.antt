-- There is room for as many as stand in the queue, so for those that still wait.
use Rattle.std.proofs.Common.{arith}
use Rattle.std.proofs.lemmas.Result.{IfOk-weaker}
use Rattle.flow_book.specs.Queue.{still_waits}
use Rattle.sched_calls.proofs.Removal.{fewer-filter}
use Rattle.flow_book.proofs.overlay.room_for_served.Goals as goal

pub returns-then-is_long-clause-room : goal.returns-then-is_long-clause-room
returns-then-is_long-clause-room c =
    let queue = c.args.queue.now in
    IfOk-weaker c.with_capacity.result _ _ (λ served holds yes'. omega (
      arith,
      holds,
      c.len.ensures,
      fewer-filter still_waits queue,
    )) c.with_capacity.ensures.capacity
