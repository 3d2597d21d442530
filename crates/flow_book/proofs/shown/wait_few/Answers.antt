-- No more wait than there are in both parts.
use Rattle.std.proofs.Common.{filter, ◌≤◌, length, arith}
use Rattle.std.proofs.lemmas.Bool.Decides.{nat_tests}
use Rattle.std.proofs.lemmas.List.{length-append}
use Rattle.flow_book.specs.Queue.{still_waits}
use Rattle.flow_book.specs.Pending.{waiting_in}
use Rattle.sched_calls.proofs.Removal.{fewer-filter}
use Rattle.flow_book.proofs.shown.wait_few.Goals as goal

pub returns-then-queue-served : goal.returns-then-queue-served
returns-then-queue-served c =
    let queue = c.args.queue.now in
    let served = c.args.served.now in
    let few : length (waiting_in queue served) ≤ c.args.most =
    omega (
      arith,
      c.if-queue-served.true,
      length-append (filter still_waits queue) (filter still_waits served),
      fewer-filter still_waits queue,
      fewer-filter still_waits served,
    ) in
    grind (arith, nat_tests)
