-- An entry that is taken is counted.
use Rattle.std.proofs.Common.{◌∙◌, length, inl, inr, sym, ap, subst}
use Rattle.std.proofs.lemmas.Bool.{cases_lt}
use Rattle.std.proofs.lemmas.Result.{err_from_is_err_and}
use Rattle.sched_calls.specs.declared.reply.TheConstants.{MAX_WHOLE_HISTORY}
use Rattle.sched_history.specs.Machine.{Past}
use Rattle.sched_history.specs.Reserves.{reserves_of}
use Rattle.minislots.specs.declared.config.Config.{Config}
use Rattle.sched_history.specs.Machine.{MayLackMemory}
use Rattle.sched_report.specs.Reported.{IsReport}
use Rattle.sched_report.specs.Window.{Window}
use Rattle.sched_report.specs.ToldLives.{MayLackReportMemory}
use Rattle.sched_report.proofs.Tallied.{may_count}
use Rattle.sched_report.proofs.reporter.Reporter.take.Goals as goal

pub reserve-requires : goal.reserve-requires
reserve-requires c = (c.self.inside.auditor.history, c.self.invariant.tally)

pub count-requires-clause-may : goal.count-requires-clause-may
count-requires-clause-may c =
    let past = c.self.inside.auditor in
    let e = c.args.entry.now in (
      past.history,
      may_count past.config past.history c.reserve.new.self c.in-Ok-outlook_of.outlook c.open_reserves-left.result e
          (c.reserve.ensures.config ∙ c.self.invariant.config)
          (c.reserve.ensures.same past.history c.self.invariant.tally) c.in_ok-judge.ensures.step
          (elim (cases_lt (length past.history) MAX_WHOLE_HISTORY) [
            | inl below ↦ below
            | inr full ↦ absurd (cc (c.in_ok-judge.ensures.full.1 full))
          ])
          (c.in-Ok-outlook_of.ensures.tells c.in_ok-judge.ensures.step)
          (c.open_reserves-left.ensures.value
          ∙ ap (λ (p : Past). length (reserves_of p.config p.history)) c.in_ok-judge.ensures.taken),
    )

pub invariant_of-self-2 : goal.invariant_of-self-2
invariant_of-self-2 c =
    let past = c.self.inside.auditor in
    let e = c.args.entry.now in
    subst (λ (p : Past). IsReport p c.count.new.self) (sym c.in_ok-judge.ensures.taken)
    (record {
      config = c.count.ensures.config ∙ c.reserve.ensures.config ∙ c.self.invariant.config;
      tally = c.count.ensures.counted past.history
          (may_count past.config past.history c.reserve.new.self c.in-Ok-outlook_of.outlook c.open_reserves-left.result e
          (c.reserve.ensures.config ∙ c.self.invariant.config)
          (c.reserve.ensures.same past.history c.self.invariant.tally) c.in_ok-judge.ensures.step
          (elim (cases_lt (length past.history) MAX_WHOLE_HISTORY) [
            | inl below ↦ below
            | inr full ↦ absurd (cc (c.in_ok-judge.ensures.full.1 full))
          ])
          (c.in-Ok-outlook_of.ensures.tells c.in_ok-judge.ensures.step)
          (c.open_reserves-left.ensures.value
          ∙ ap (λ (p : Past). length (reserves_of p.config p.history)) c.in_ok-judge.ensures.taken));
    })

-- where the auditor may lack memory the report may
pub returns-in_err-judge-clause-memory : goal.returns-in_err-judge-clause-memory
returns-in_err-judge-clause-memory c = λ is.
    let p = err_from_is_err_and c.from_residual.result c.from_residual.ensures.1 in
    let may : MayLackMemory c.self.inside.tally.config c.self.inside.auditor.history c.args.entry.now.call =
    subst (λ (k : Config). MayLackMemory k c.self.inside.auditor.history c.args.entry.now.call)
    (sym c.self.invariant.config) (c.in_err-judge.ensures.memory (cc (p.1, p.2, is))) in
    subst (λ (w : Window). MayLackReportMemory w.config w.history c.args.entry.now) c.self.view_is (inl may)
