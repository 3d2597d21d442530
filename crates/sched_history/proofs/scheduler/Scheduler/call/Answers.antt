-- The reply that is handed out is the one that is recorded.
use Rattle.std.proofs.Common.{refl}
use Rattle.sched_calls.specs.declared.reply.Unrecorded.TheVariants.{HistoryFull, Memory}
use Rattle.sched_history.proofs.runs.Reasons.{same_reason, same_reasons}
use Rattle.sched_history.proofs.state.Recording.{IsRecorded-copy}
use Rattle.sched_history.proofs.scheduler.Scheduler.call.Goals as goal

pub unwrap-requires : goal.unwrap-requires
unwrap-requires c = rw (c.in-Ok.ensures.recorded.2 refl) refl

pub returns-in-Ok-clause-recorded : goal.returns-in-Ok-clause-recorded
returns-in-Ok-clause-recorded c =
    (IsRecorded-copy c.args.self.now c.make.new.self c.args.stamp c.args.call c.in-Ok.copy c.unwrap.result
    c.in-Ok.ensures.recorded c.unwrap.ensures).entered

pub returns-in-Ok-clause-step : goal.returns-in-Ok-clause-step
returns-in-Ok-clause-step c =
    (IsRecorded-copy c.args.self.now c.make.new.self c.args.stamp c.args.call c.in-Ok.copy c.unwrap.result
    c.in-Ok.ensures.recorded c.unwrap.ensures).step

pub returns-in-Ok-clause-encodable : goal.returns-in-Ok-clause-encodable
returns-in-Ok-clause-encodable c =
    (IsRecorded-copy c.args.self.now c.make.new.self c.args.stamp c.args.call c.in-Ok.copy c.unwrap.result
    c.in-Ok.ensures.recorded c.unwrap.ensures).encodable

pub returns-in-Err-clause-full : goal.returns-in-Err-clause-full
returns-in-Err-clause-full c = same_reasons c.in-Err.unrecorded HistoryFull _ c.in-Err.ensures.full

pub returns-in-Err-clause-memory : goal.returns-in-Err-clause-memory
returns-in-Err-clause-memory c = λ is. c.in-Err.ensures.memory (same_reason c.in-Err.unrecorded Memory is)
