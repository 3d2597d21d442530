-- The script that was read was answered.
use Rattle.std.proofs.Common.{◌≡◌, ap}
use Rattle.sched_history.specs.Machine.{Machine}
use Rattle.run_command.specs.Run.{AnswersLeaving}
use Rattle.run_command.proofs.run.run_with.Goals as goal

pub returns-clause-ok : goal.returns-clause-ok
returns-clause-ok g c =
    let opened : c.in-Ok.scheduler.config ≡ c.in_ok-config.config = ap (λ (m : Machine). m.config) c.in-Ok.ensures in
    let leaving : AnswersLeaving _ c.in_ok-config.config c.in_ok-config.calls.items _ _ _ =
    rw (opened, c.deref.ensures.value) at c.in_ok-unrecorded.ensures.ok in
    record {
      ran = record {
        scenario = record { config = c.in_ok-config.config; calls = c.in_ok-config.calls.items };
        read = c.in_ok-config.ensures.ok;
        answered = leaving.answered;
      };
      count = leaving.count;
    }
