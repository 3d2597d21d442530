-- A call is counted where it has a reply.
use Rattle.live_command.proofs.Counted.{counted_reply, counted_err}
use Rattle.live_command.proofs.answer.count_call.Goals as goal

pub returns-in-Ok-clause-counted : goal.returns-in-Ok-clause-counted
returns-in-Ok-clause-counted c = λ config h may.
    rw c.in-Ok.is (counted_reply config h _ _ _ _ (rw c.in-Ok.is at may) c.count.ensures.total c.count.ensures.since)

pub returns-in-Err-clause-counted : goal.returns-in-Err-clause-counted
returns-in-Err-clause-counted c = λ config h may.
    counted_err h c.args.call.now c.args.answer.now _ c.args.outbox.now c.in-Err.is
