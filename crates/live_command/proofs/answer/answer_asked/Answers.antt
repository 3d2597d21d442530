-- A call has its answer, and a line that asks for the numbers has these.
use Rattle.text_stream.proofs.Written.{where_ok}
use Rattle.live_command.proofs.Saying.{where_err, always_err, both_ok, said_call, answered_call, said_stats}
use Rattle.live_command.proofs.Saying.{answered_stats}
use Rattle.live_command.proofs.answer.answer_asked.Goals as goal

pub returns-in-Call-clause-ok : goal.returns-in-Call-clause-ok
returns-in-Call-clause-ok c = rw c.in-Call.is (where_ok c.answer_call.result
    (λ answered p same counted. answered_call c.args.wording c.in-Call.call p _ _ _ _ answered same counted)
    c.answer_call.ensures.ok)

pub returns-in-Call-clause-unput : goal.returns-in-Call-clause-unput
returns-in-Call-clause-unput c = rw c.in-Call.is (where_err c.answer_call.result
    (λ answered p same counted. said_call c.args.wording c.in-Call.call p _ _ same answered)
    c.answer_call.ensures.unput)

pub returns-in-Stats-clause-ok : goal.returns-in-Stats-clause-ok
returns-in-Stats-clause-ok c = rw c.in-Stats.is (both_ok c.put_stats.result
    (λ put since p same counted. answered_stats c.args.wording p _ _ _ _ _ _ c.backlog.ensures put
    c.put_stats.ensures.total since same counted)
    c.put_stats.ensures.ok c.put_stats.ensures.since)

pub returns-in-Stats-clause-unput : goal.returns-in-Stats-clause-unput
returns-in-Stats-clause-unput c = rw c.in-Stats.is (always_err c.put_stats.result
    (λ p same counted. said_stats c.args.wording p c.args.scheduler.now c.args.outbox.now 0 0 same counted))
