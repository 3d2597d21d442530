-- The state after the script that was read was shown.
use Rattle.std.proofs.Common.{◌≡◌, ap}
use Rattle.sched_history.specs.Machine.{Machine}
use Rattle.state_command.proofs.script.state_of_script.Goals as goal

pub returns-clause-ok : goal.returns-clause-ok
returns-clause-ok g c =
    let opened : c.in-Ok.scheduler.config ≡ c.in_ok-config.config = ap (λ (m : Machine). m.config) c.in-Ok.ensures in
    record {
      scenario = record { config = c.in_ok-config.config; calls = c.in_ok-config.calls.items };
      read = c.in_ok-config.ensures.ok;
      leaves = rw (opened, c.deref.ensures.value) at c.in_ok-unrecorded.ensures.ok;
    }
