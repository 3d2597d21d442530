-- What is asked for has its answer, a fault what is wrong, and a blank line nothing.
use Rattle.text_stream.proofs.Written.{where_ok}
use Rattle.live_command.proofs.Saying.{said_fault, answered_fault, answered_blank, always_err}
use Rattle.live_command.proofs.answer.answer.Goals as goal

pub returns-in-Some-Ok-clause-ok : goal.returns-in-Some-Ok-clause-ok
returns-in-Some-Ok-clause-ok c =
    let asked = rw c.in-Some-Ok.is at c.in-Some-Ok.field-0-is in
    rw (c.in-Some-Ok.is, asked) c.answer_asked.ensures.ok

pub returns-in-Some-Ok-clause-unput : goal.returns-in-Some-Ok-clause-unput
returns-in-Some-Ok-clause-unput c =
    let asked = rw c.in-Some-Ok.is at c.in-Some-Ok.field-0-is in
    rw (c.in-Some-Ok.is, asked) c.answer_asked.ensures.unput

pub returns-in-Some-Err-clause-ok : goal.returns-in-Some-Err-clause-ok
returns-in-Some-Err-clause-ok c =
    let fault = rw c.in-Some-Err.is at c.in-Some-Err.field-0-is in
    rw (c.in-Some-Err.is, fault) (where_ok c.put_fault.result
    (λ put p same counted. answered_fault c.args.wording c.in-Some-Err.fault p c.args.scheduler.now _ _ put same
    counted)
    c.put_fault.ensures.ok)

pub returns-in-Some-Err-clause-unput : goal.returns-in-Some-Err-clause-unput
returns-in-Some-Err-clause-unput c =
    let fault = rw c.in-Some-Err.is at c.in-Some-Err.field-0-is in
    rw (c.in-Some-Err.is, fault) (always_err c.put_fault.result
    (λ p same counted. said_fault c.args.wording c.in-Some-Err.fault p c.args.scheduler.now same))

pub returns-in-None-clause-ok : goal.returns-in-None-clause-ok
returns-in-None-clause-ok c = λ p same counted.
    rw c.in-None.is (answered_blank c.args.wording p c.args.scheduler.now c.args.outbox.now same counted)
