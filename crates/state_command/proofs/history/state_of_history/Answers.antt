-- The state after the entries that were taken is shown.
use Rattle.std.proofs.Common.{◌≡◌, ap}
use Rattle.sched_history.specs.Machine.{Past}
use Rattle.state_command.specs.History.{IsTaken}
use Rattle.state_command.specs.declared.history.Taken.TheVariants.{Legal}
use Rattle.state_command.proofs.history.state_of_history.Goals as goal

pub returns-clause-ok : goal.returns-clause-ok
returns-clause-ok g c =
    let taken : IsTaken c.in_ok-config.config c.in_ok-config.entries.items (Legal c.in-Legal.auditor) =
    rw (c.in-Legal.is, c.deref.ensures.value) at c.in_ok-auditor.ensures.ok in
    let config : c.in-Legal.auditor.config ≡ c.in_ok-config.config = ap (λ (p : Past). p.config) taken.1 in
    let history : c.in-Legal.auditor.history ≡ c.in_ok-config.entries.items = ap (λ (p : Past). p.history) taken.1 in
    record {
      history = record { config = c.in_ok-config.config; entries = c.in_ok-config.entries.items };
      read = c.in_ok-config.ensures.ok;
      written = record {
        legal = taken.0;
        shown = rw (c.in-Ok.ensures, config, history) at c.in_ok-put_state.ensures.ok;
      };
    }
